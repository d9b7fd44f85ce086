-- The records of a file, as they are replayed one by one.
use Rattle.std.specs.Prelude.{ℕ, ◌≡◌, ◌+◌, ◌-◌, ◌%◌, ◌^◌, Bool, ◌&&◌, ◌||◌, cond, ◌==◌, nat_lt, List, ◌++◌, length, drop, Option, Some, None, option_map, codes, decimal}
use Rattle.vectors.specs.declared.Counts.{Counts}
use Rattle.vectors.specs.declared.Records.{Records}
use Rattle.vectors.specs.Words.{flag_of}

-- a file of n bytes before its first record
unfoldable pub started : ℕ → Records
started n = record { left = n; counts = cond (nat_lt 0 n && nat_lt n 786432) (Some (record { records = 0; agree = 0 })) None }

-- the next record does not have all of its bytes: the file is not whole, and nothing of it is left
abbrev pub torn : Records
torn = record { left = 0; counts = None }

-- one record more
abbrev pub counted : Bool → Counts → Counts
counted agreed c = record { records = (c.records + 1) % 2 ^ 64; agree = (c.agree + flag_of agreed) % 2 ^ 64 }

-- one record more, of some bytes; one that has none, or more than are left, is torn
unfoldable pub next_of : Records → ℕ → Bool → Records
next_of r size agreed = cond (size == 0 || nat_lt r.left size) torn (record { left = r.left - size; counts = option_map (counted agreed) r.counts })

-- the bytes that are left, from the next record on
abbrev pub left_of : List ℕ → Records → List ℕ
left_of bytes r = drop (length bytes - r.left) bytes

-- Every record is replayed: while bytes are left, the next record is sized and answered at those bytes, and counted.
pub data Replays (Sizes : List ℕ → ℕ → Type 0) (Answers : List ℕ → Bool → Type 0) (bytes : List ℕ) : Records → Records → Type 0 where
  ended : (r : Records) → r.left ≡ 0 → Replays Sizes Answers bytes r r
  next : (r last : Records) (size : ℕ) (agreed : Bool) → Sizes (left_of bytes r) size → Answers (left_of bytes r) agreed → Replays Sizes Answers bytes (next_of r size agreed) last → Replays Sizes Answers bytes r last

-- the line of a file that is there; None is one that is not whole
abbrev pub told : List ℕ → List ℕ → Option Counts → List ℕ
told name path None = name ++ (codes ": " ++ (path ++ codes " is not whole"))
told name path (Some counts) = name ++ (codes ": " ++ (decimal counts.agree ++ (codes " of " ++ (decimal counts.records ++ codes " agree"))))

-- the line of a file of a name, at a path; None is a file that is missing
abbrev pub line_of : List ℕ → List ℕ → Option Records → List ℕ
line_of name path None = name ++ (codes ": " ++ (path ++ codes " is missing"))
line_of name path (Some file) = told name path file.counts
