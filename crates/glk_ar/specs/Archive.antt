-- An archive: the magic, and members one after another up to the end of the file.
use Rattle.std.specs.Prelude.{◌≡◌, ◌+◌, ◌%◌, ◌<◌, ℕ, List, [], ◌∷◌, length, drop, min, nat_eq, true, Option, Some, None, ◌⊎◌, Result, Ok, Err}
use Rattle.std.specs.List.{starts_with}
use Rattle.glk_ar.specs.declared.walk.ArBad.{ArBad}
use Rattle.glk_ar.specs.Member.{IsMember, BreaksFirst, rule_offset, header_length, name_of, size_of, body_of}

abbrev pub magic : List ℕ
magic = 33 ∷ 60 ∷ 97 ∷ 114 ∷ 99 ∷ 104 ∷ 62 ∷ 10 ∷ []

-- A1: the file begins with the magic.
abbrev pub HasMagic : List ℕ → Type 0
HasMagic b = starts_with nat_eq b magic ≡ true

-- the refusal of a file that does not
abbrev pub no_magic : ArBad
no_magic = record { rule = 1; offset = 0 }

-- a member: its name, its body, and the offset of its header in the file
pub record Entry : Type 0 where
  pub name : List ℕ
  pub body : List ℕ
  pub at : ℕ

-- the offset of its body in the file: after its header
abbrev pub body_at : Entry → ℕ
body_at e = e.at + header_length

abbrev pub entry_at : List ℕ → ℕ → Entry
entry_at b p = record { name = name_of (drop p b); body = body_of (drop p b); at = p }

-- The offset after the member at p: the end of its body, made even by a byte of any value, which the end of the file may lack.
abbrev pub after : List ℕ → ℕ → ℕ
after b p = let end = p + header_length + size_of (drop p b) in min (end + end % 2) (length b)

-- At p, which is not the end of the file, there is a member, and it is this one.
pub record IsMemberAt (b : List ℕ) (p : ℕ) (e : Entry) : Type 0 where
  pub inside : p < length b
  pub member : IsMember (drop p b)
  pub entry : e ≡ entry_at b p

-- At p, which is not the end of the file, there is no member, and this is the first rule that is broken there.
pub record IsRefused (b : List ℕ) (p : ℕ) (bad : ArBad) : Type 0 where
  pub inside : p < length b
  pub rule : BreaksFirst (drop p b) bad.rule
  pub offset : bad.offset ≡ p + rule_offset bad.rule

-- A list of members ends at p: at the end of the file, or by a refusal.
abbrev pub Ends : List ℕ → ℕ → Option ArBad → Type 0
Ends b p None = p ≡ length b
Ends b p (Some bad) = IsRefused b p bad

-- From p on there are these members, one after another, and after them the list ends.
abbrev pub IsRun : List ℕ → ℕ → List Entry → Option ArBad → Type 0
IsRun b p [] last = Ends b p last
IsRun b p (e ∷ es) last = IsMemberAt b p e × IsRun b (after b p) es last

abbrev pub first_offset : ℕ
first_offset = length magic

-- Whose first rule is broken: the magic is not there, or it is, some members follow, and then this rule is broken.
abbrev pub IsBadArchive : List ℕ → ArBad → Type 0
IsBadArchive b bad = (¬ HasMagic b × (bad ≡ no_magic)) ⊎ (HasMagic b × (es : List Entry) × IsRun b first_offset es (Some bad))

-- What a file is as an archive: its members, or its first broken rule.
abbrev pub Archive : List ℕ → Result (List Entry) ArBad → Type 0
Archive b (Ok es) = HasMagic b × IsRun b first_offset es None
Archive b (Err bad) = IsBadArchive b bad
