-- Laws of fields, as statements: a line is cut into the fields that the text form gives it, and a field
-- reads as what it spells, and as nothing else.
use Rattle.std.specs.Prelude.{◌≡◌, ◌≤◌, ◌<◌, ◌^◌, ◌↔◌, ℕ, ℤ, List, length, Ok, Err}
use Rattle.glk_obj.specs.declared.records.SymRef.{SymRef}
use Rattle.glk_objdesc.specs.declared.desc.ObjDesc.{ObjDesc}
use Rattle.glk_objdesc.specs.Printable.{IsPrintable}
use Rattle.glk_objdesc.specs.Typed.{IsTyped}
use Rattle.glk_objtext.specs.Bytes.{HasBytes}
use Rattle.glk_objtext.specs.CanonicalText.{canonical_text}
use Rattle.glk_objtext.specs.Fields.{fields}
use Rattle.glk_objtext.specs.Forms.{HasFields, IsNumber, IsSigned, IsOctets, IsSized, IsReference, IsString}
use Rattle.glk_objtext.specs.Numbers.{number_of, signed_of}
use Rattle.glk_objtext.specs.Octets.{octets_of, sized_of}
use Rattle.glk_objtext.specs.Reading.{read_text}
use Rattle.glk_objtext.specs.Rules.{IsFirstBadOf}
use Rattle.glk_objtext.specs.Spelled.{Spells}
use Rattle.glk_objtext.specs.Strings.{string_of}
use Rattle.glk_objtext.specs.Targets.{target_of}
use Rattle.glk_objtext.specs.declared.read.TextBad.{TextBad}

-- a line is cut into the fields that the text form gives it
abbrev pub FieldsAreThose : Type 0
FieldsAreThose = (line : List ℕ) (fs : List (List ℕ)) → HasFields line fs ↔ (fs ≡ fields line)

-- a field reads as the number that it spells
abbrev pub NumbersAreThose : Type 0
NumbersAreThose = (limit : ℕ) (field : List ℕ) (n : ℕ) → limit ≤ 2 ^ 64 → (number_of limit field ≡ Ok n) ↔ IsNumber limit field n

-- the same of a number with a sign
abbrev pub SignedAreThose : Type 0
SignedAreThose = (limit : ℕ) (field : List ℕ) (z : ℤ) → limit ≤ 2 ^ 63 → (signed_of limit field ≡ Ok z) ↔ IsSigned limit field z

-- the same of bytes; no field of a line is empty
abbrev pub OctetsAreThose : Type 0
OctetsAreThose = (field s : List ℕ) → 0 < length field → (octets_of field ≡ Ok s) ↔ IsOctets field s

-- the same of so many bytes
abbrev pub SizedAreThose : Type 0
SizedAreThose = (n : ℕ) (field s : List ℕ) → 0 < n → (sized_of n field ≡ Ok s) ↔ IsSized n field s

-- the same of a reference
abbrev pub ReferencesAreThose : Type 0
ReferencesAreThose = (field : List ℕ) (r : SymRef) → (target_of field ≡ Ok r) ↔ IsReference field r

-- the same of a string
abbrev pub StringsAreThose : Type 0
StringsAreThose = (field s : List ℕ) → (string_of field ≡ Ok s) ↔ IsString field s

-- a text is refused for its first bad line, and for nothing else
abbrev pub BadLinesAreThose : Type 0
BadLinesAreThose = (text : List ℕ) (bad : TextBad) → (read_text text ≡ Err bad) ↔ IsFirstBadOf text bad

-- a text reads as the description that it spells
abbrev pub DescriptionsAreThose : Type 0
DescriptionsAreThose = (text : List ℕ) (d : ObjDesc) → (read_text text ≡ Ok d) ↔ Spells text d

-- The canonical text of a printable description spells the description, where its numbers are within
-- their types and its strings are of bytes, as those of each value are.
abbrev pub CanonicalTextsSpell : Type 0
CanonicalTextsSpell = (d : ObjDesc) → IsPrintable d → IsTyped d → HasBytes d → Spells (canonical_text d) d
