-- The steps of a walk over the members of a file, and what they say of the archive.
use Rattle.std.specs.Prelude.{◌≡◌, ℕ, List, ◌++◌, length, Option, Some, None, Result, Ok, Err}
use Rattle.glk_ar.specs.declared.walk.ArBad.{ArBad}
use Rattle.glk_ar.specs.declared.walk.Member.{Member}
use Rattle.glk_ar.specs.Walk.{Walk}
use Rattle.glk_ar.specs.Archive.{Entry, first_offset, HasMagic, IsMemberAt, IsRefused, IsRun, after}

abbrev pub walk_from_start : List ℕ → Walk
walk_from_start b = record { bytes = b; at = first_offset }

-- a member that is borrowed from the file, without where it lies in memory
abbrev pub entry_of : Member → Entry
entry_of m = record { name = m.name.now; body = m.body.now; at = m.at }

-- What one step of a walk answers, and where it leaves the walk: at the end of the file nothing, for good; else the member
-- there, and the walk goes on after it; else the refusal, and the walk is at the end.
abbrev pub Steps : Walk → Option (Result Member ArBad) → Walk → Type 0
Steps old None new = (old.at ≡ length old.bytes) × (new ≡ old)
Steps old (Some (Ok m)) new = IsMemberAt old.bytes old.at (entry_of m) × (new ≡ record { bytes = old.bytes; at = after old.bytes old.at })
Steps old (Some (Err bad)) new = IsRefused old.bytes old.at bad × (new ≡ record { bytes = old.bytes; at = length old.bytes })

-- These members are those before p: what goes on from p as a run goes on after them as one of the whole file.
pub record IsPrefix (b : List ℕ) (done : List Entry) (p : ℕ) : Type 0 where
  pub goes_on : (rest : List Entry) (last : Option ArBad) → IsRun b p rest last → IsRun b first_offset (done ++ rest) last

-- A walk through the file b that has passed these members.
pub record Walked (b : List ℕ) (done : List Entry) (walk : Walk) : Type 0 where
  pub magic : HasMagic b
  pub bytes : walk.bytes ≡ b
  pub prefix : IsPrefix b done walk.at
