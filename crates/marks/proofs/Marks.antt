-- A list that a loop fills from another, entry by entry, is that list through the function; and marks are read back from their bytes.
use Prim.Native.Nat.{ℕ, ◌<◌}
use mathlib.Core.Path.{◌≡◌, refl, sym, ◌∙◌}
use mathlib.Core.Bool.{Bool, true, false}
use mathlib.Core.List.{List, [], ◌∷◌, map}
use native.Mathlib.Omega.{arith}
use lib.ListN.{length, length-map, get_or, get_or-map}
use lib.Seq.{ext_get_or}
use Rattle.float.specs.Series.{fill}
use Rattle.float.proofs.Fill.{length_fill, filled}
use Rattle.marks.specs.Marks.{is_marked, mark_byte, marks_by, mark_bytes, settled_byte, settled}

pub mapped : {A B : Type 0} (f : A → B) (d : A) (from : List A) (g : ℕ → List B → B) (l : List B) → length l ≡ length from
    → ((j : ℕ) → j < length from → g j (fill g l j) ≡ f (get_or from j d)) → fill g l (length from) ≡ map f from
mapped f d from g l e h =
    let n = length from in
    ext_get_or (f d) (fill g l n) (map f from) (length_fill g l n ∙ e ∙ sym (length-map from f))
    (λ j p. let q : j < length from = rw (length_fill g l n, e) at p in
    filled g l (f d) n j (omega (arith, e)) q ∙ h j q ∙ sym (get_or-map f from j d))

-- marks are read back from their bytes
mark_back : (mark : Bool) → is_marked (mark_byte mark) ≡ mark
mark_back true = refl
mark_back false = refl

pub marks_back : (marks : List Bool) → marks_by (mark_bytes marks) ≡ marks
marks_back [] = refl
marks_back (x ∷ marks) = rw (mark_back x, marks_back marks)

-- settled bytes stand for the same marks, and bytes of marks are settled
settled_mark : (mark : Bool) → settled_byte (mark_byte mark) ≡ mark_byte mark
settled_mark true = refl
settled_mark false = refl

pub same_marks : (bytes : List ℕ) → marks_by (settled bytes) ≡ marks_by bytes
same_marks [] = refl
same_marks (x ∷ bytes) = rw (mark_back (is_marked x), same_marks bytes)

pub settled_marks : (marks : List Bool) → settled (mark_bytes marks) ≡ mark_bytes marks
settled_marks [] = refl
settled_marks (x ∷ marks) = rw (settled_mark x, settled_marks marks)
