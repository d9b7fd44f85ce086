-- What `ready` leaves of the bytes of marks, and the test that decides it.
use Prim.Native.Nat.{ℕ}
use mathlib.Core.Path.{◌≡◌, refl}
use mathlib.Core.Bool.{Bool, true, false, cond}
use mathlib.Core.List.{List}
use lib.Ieee.{Float}
use Rattle.identify.specs.declared.IdentifyProbe.{IdentifyProbe}
use Rattle.marks.specs.Marks.{marks_by, mark_bytes, settled, KeepsMarks}
use Rattle.marks.proofs.Marks.{same_marks, settled_marks}
use Rattle.live_probe.specs.Live.{reads_in, readied}

module _ (p : IdentifyProbe) (dt : Float) where
  same_marks_if : (b : Bool) (bytes : List ℕ) → marks_by (cond b (settled bytes) bytes) ≡ marks_by bytes
  same_marks_if true bytes = same_marks bytes
  same_marks_if false bytes = refl

  settled_if : (b : Bool) (marks : List Bool) → cond b (settled (mark_bytes marks)) (mark_bytes marks) ≡ mark_bytes marks
  settled_if true marks = settled_marks marks
  settled_if false marks = refl

  -- what `ready` ensures of the bytes that it leaves
  pub readies : (bytes left : List ℕ) → left ≡ readied p dt bytes
      → (left ≡ readied p dt bytes) × KeepsMarks bytes left
  unfolding readied
  readies bytes left is =
      let b = reads_in p dt in
      (is, (rw is (same_marks_if b bytes), λ marks e. rw (is, e) (settled_if b marks)))

  pub reads : reads_in p dt ≡ true → (bytes : List ℕ) → settled bytes ≡ readied p dt bytes
  unfolding readied
  reads e bytes = rw e

  pub reads_none : reads_in p dt ≡ false → (bytes : List ℕ) → bytes ≡ readied p dt bytes
  unfolding readied
  reads_none e bytes = rw e
