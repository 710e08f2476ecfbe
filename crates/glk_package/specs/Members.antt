-- What a member of a package file holds.
use Rattle.std.specs.Prelude.{◌≡◌, ◌+◌, ◌⊎◌, ℕ, List, [], ◌∷◌, ◌++◌, codes, Option, Some}
use Rattle.glk_base.specs.declared.rules.RuleFamily.TheVariants as family
use Rattle.glk_base.specs.Rules.{FirstBroken}
use Rattle.glk_ar.specs.declared.walk.ArBad.{ArBad}
use Rattle.glk_ar.specs.Archive.{Entry, body_at}
use Rattle.glk_ar.specs.Part.{Part, HasLineStart, HasNoMark, HoldsPart, mark_rule}
use Rattle.glk_obj.specs.Object.{IsObject}
use Rattle.glk_obj.specs.Blocks.{hash, header_offset}
use Rattle.glk_obj.specs.Records.{hash_width}
use Rattle.glk_obj.specs.Rules.{Breaks}
use Rattle.glk_package.specs.declared.refusal.PackageBad.{PackageBad}
use Rattle.glk_package.specs.declared.refusal.PackageBad.TheVariants as bad
use Rattle.glk_package.specs.HeaderRule.{Allows, IsMismatch}
use Rattle.glk_package.specs.WidthRule.{WidthRule, FitsWidth}
use Rattle.glk_package.specs.ObjectRules.{ObjectRules, rules_after}
use Rattle.glk_package.specs.ObjectEntry.{ObjectEntry}

-- The body of member n, or the bare file, which is at this offset in the file, holds this object: it begins as an object for
-- this platform does, its line is allowed, the data after its first mark break no rule of objects, and their long hashes, if there
-- are any, have the length that is asked.
pub record IsObjectIn (rules : ObjectRules) (n at : ℕ) (name : Option (List ℕ)) (body : List ℕ) (object : ObjectEntry) : Type 0 where
  pub part : Part
  pub holds : HoldsPart body part
  pub allowed : Allows rules.headers part.line
  pub whole : IsObject part.goobj
  pub fits : FitsWidth rules.widths (hash_width part.goobj)
  pub is : object ≡ record { member = n; name = name; line = part.line; goobj = part.goobj; at = at + part.at }

-- The object's line is `here`, and another line is asked: `first`.
pub record HasMismatch (rules : ObjectRules) (body first here : List ℕ) : Type 0 where
  pub part : Part
  pub holds : HoldsPart body part
  pub own : here ≡ part.line
  pub mismatch : IsMismatch rules.headers first here

-- V17: the number of the rule that the long hashes of all objects of a link have one length
abbrev pub width_rule : ℕ
width_rule = 17

-- The data are an object, and its long hashes have not the length that is asked. That is found at the place in the header which
-- says where they begin.
pub record BreaksWidth (widths : WidthRule) (goobj : List ℕ) (rule offset : ℕ) : Type 0 where
  pub whole : IsObject goobj
  pub other : ¬ FitsWidth widths (hash_width goobj)
  pub rule_is : rule ≡ width_rule
  pub offset_is : offset ≡ header_offset hash

-- The first broken rule of the data of an object: of its own rules V1 to V16, or where it breaks none of them, V17.
abbrev pub IsObjectFault : WidthRule → List ℕ → ℕ → ℕ → Type 0
IsObjectFault widths goobj rule offset = FirstBroken (Breaks goobj) rule offset ⊎ BreaksWidth widths goobj rule offset

-- The line is allowed, and the data after the first mark break this rule of objects first, at this offset from their start.
pub record BreaksObject (rules : ObjectRules) (body : List ℕ) (rule offset : ℕ) : Type 0 where
  pub part : Part
  pub holds : HoldsPart body part
  pub allowed : Allows rules.headers part.line
  pub first : IsObjectFault rules.widths part.goobj rule offset

-- The first fault of the body of member n, which is at this offset in the file: it does not begin as an object for this
-- platform does; or it does, and the mark is missing; or both are there, and the line is not the one that is asked; or the
-- line is allowed, and the data after the mark are no object.
abbrev pub IsBodyFault : ObjectRules → ℕ → ℕ → List ℕ → PackageBad → Type 0
IsBodyFault rules n at body (bad.NotGo m) = (m ≡ n) × (¬ HasLineStart body)
IsBodyFault rules n at body (bad.HeaderMismatch m first here) = (m ≡ n) × HasMismatch rules body first here
IsBodyFault rules n at body (bad.Malformed m family.Archive rule offset) =
    (m ≡ n) × (rule ≡ mark_rule) × (offset ≡ at) × HasLineStart body × HasNoMark body
IsBodyFault rules n at body (bad.Malformed m family.Object rule offset) = (m ≡ n) × BreaksObject rules body rule offset

-- the name of the member that describes the package to the compiler, and holds no object
abbrev pub description : List ℕ
description = codes "__.PKGDEF"

abbrev pub IsSkipped : Entry → Type 0
IsSkipped e = e.name ≡ description

-- The object that member n holds.
abbrev pub IsObjectOf : ObjectRules → ℕ → Entry → ObjectEntry → Type 0
IsObjectOf rules n e object = IsObjectIn rules n (body_at e) (Some e.name) e.body object

-- The objects of member n: none where it is skipped, else the one that it holds.
abbrev pub AreObjectsOf : ObjectRules → ℕ → Entry → List ObjectEntry → Type 0
AreObjectsOf rules n e objects =
    (IsSkipped e × (objects ≡ [])) ⊎ ((¬ IsSkipped e) × (object : ObjectEntry) × IsObjectOf rules n e object × (objects ≡ object ∷ []))

-- The objects of member n have been added to these, and these are the rules for the members after it.
abbrev pub AddsObjects : ObjectRules → ℕ → Entry → List ObjectEntry → List ObjectEntry → ObjectRules → Type 0
AddsObjects rules n e old new later =
    (here : List ObjectEntry) × AreObjectsOf rules n e here × (new ≡ old ++ here) × (later ≡ rules_after rules here)

-- The objects of these members, the first of which has the number n.
abbrev pub AreObjects : ObjectRules → ℕ → List Entry → List ObjectEntry → Type 0
AreObjects rules n [] objects = objects ≡ []
AreObjects rules n (e ∷ es) objects =
    (here : List ObjectEntry) × (rest : List ObjectEntry)
    × AreObjectsOf rules n e here × AreObjects (rules_after rules here) (n + 1) es rest × (objects ≡ here ++ rest)

-- The first fault of what member n holds.
abbrev pub IsMemberFault : ObjectRules → ℕ → Entry → PackageBad → Type 0
IsMemberFault rules n e fault = (¬ IsSkipped e) × IsBodyFault rules n (body_at e) e.body fault

-- the fault of a file whose archive breaks a rule where member n would begin
abbrev pub archive_fault : ℕ → ArBad → PackageBad
archive_fault n broken = bad.Malformed n family.Archive broken.rule broken.offset
