-- The marks of a window as bytes.
use Rattle.std.specs.Prelude.{ℕ, ◌≡◌, Bool, true, false, not, List, map, eqb}

-- a byte that is not 0 marks its sample as held
abbrev pub is_marked : ℕ → Bool
is_marked byte = not (eqb byte 0)

abbrev pub marks_by : List ℕ → List Bool
marks_by bytes = map is_marked bytes

-- the byte of a mark, and the bytes of marks
abbrev pub mark_byte : Bool → ℕ
mark_byte true = 1
mark_byte false = 0

abbrev pub mark_bytes : List Bool → List ℕ
mark_bytes marks = map mark_byte marks

-- each byte as that of its mark
abbrev pub settled_byte : ℕ → ℕ
settled_byte byte = mark_byte (is_marked byte)

abbrev pub settled : List ℕ → List ℕ
settled bytes = map settled_byte bytes

-- the marks that are read are the same, and bytes of marks stay as they are
abbrev pub KeepsMarks : (bytes left : List ℕ) → Type 0
KeepsMarks bytes left = (marks_by left ≡ marks_by bytes) × ((marks : List Bool) → bytes ≡ mark_bytes marks → left ≡ bytes)
