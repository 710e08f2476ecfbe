-- What holds of all files, as statements.
use Rattle.std.specs.Prelude.{◌≡◌, ℕ, List, [], ◌∷◌, ◌++◌, Some, None, Result, Ok, Err}
use Rattle.glk_ar.specs.declared.walk.ArBad.{ArBad}
use Rattle.glk_ar.specs.declared.walk.Member.{Member}
use Rattle.glk_ar.specs.Archive.{Entry, HasMagic, Archive}
use Rattle.glk_ar.specs.Part.{Part, HoldsPart}
use Rattle.glk_ar.specs.Walk.{Walk}
use Rattle.glk_ar.specs.Walks.{walk_from_start, entry_of, Steps, Walked}

-- A file is one archive, or has one first broken rule, and not both.
abbrev pub IsOneArchive : Type 0
IsOneArchive = (b : List ℕ) (one other : Result (List Entry) ArBad) → Archive b one → Archive b other → one ≡ other

-- A body holds one object.
abbrev pub IsOnePart : Type 0
IsOnePart = (body : List ℕ) (one other : Part) → HoldsPart body one → HoldsPart body other → one ≡ other

-- A walk that starts after the magic has passed nothing, each step to a member passes this one,
abbrev pub StartsWalked : Type 0
StartsWalked = (b : List ℕ) → HasMagic b → Walked b [] (walk_from_start b)

abbrev pub PassesMembers : Type 0
PassesMembers = (b : List ℕ) (done : List Entry) (old new : Walk) (m : Member)
    → Walked b done old → Steps old (Some (Ok m)) new → Walked b (done ++ entry_of m ∷ []) new

-- where it ends, the file is the archive of the passed members, and what it is refused for is the first broken rule of the file.
abbrev pub EndsWhole : Type 0
EndsWhole = (b : List ℕ) (done : List Entry) (old new : Walk)
    → Walked b done old → Steps old None new → Archive b (Ok done)

abbrev pub RefusesFirst : Type 0
RefusesFirst = (b : List ℕ) (done : List Entry) (old new : Walk) (bad : ArBad)
    → Walked b done old → Steps old (Some (Err bad)) new → Archive b (Err bad)
