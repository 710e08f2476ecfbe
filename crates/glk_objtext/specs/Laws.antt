-- Laws of the spellings, as statements: the canonical spelling of a thing reads as the thing.
use Rattle.std.specs.Prelude.{◌≡◌, ◌≤◌, ◌<◌, ◌^◌, ℕ, ℤ, List, Ok}
use Rattle.hex.specs.Hex.{IsBytes}
use Rattle.glk_obj.specs.declared.records.SymRef.{SymRef}
use Rattle.glk_objdesc.specs.Printable.{package_limit, IsPrintable}
use Rattle.glk_objdesc.specs.Typed.{IsTyped}
use Rattle.glk_objdesc.specs.declared.desc.ObjDesc.{ObjDesc}
use Rattle.glk_objtext.specs.Bytes.{HasBytes}
use Rattle.glk_objtext.specs.Numbers.{number_of, number_text, signed_of, signed_text, IsWithin}
use Rattle.glk_objtext.specs.Octets.{octets_of, octets_text}
use Rattle.glk_objtext.specs.Reading.{read_text}
use Rattle.glk_objtext.specs.Strings.{NoZeros, string_of, string_text}
use Rattle.glk_objtext.specs.Targets.{target_of, target_text}
use Rattle.glk_objtext.specs.Text.{text_of}

abbrev pub NumbersReadBack : Type 0
NumbersReadBack = (limit n : ℕ) → limit ≤ 2 ^ 64 → n < limit → number_of limit (number_text n) ≡ Ok n

abbrev pub SignedReadBack : Type 0
SignedReadBack = (limit : ℕ) (z : ℤ) → limit ≤ 2 ^ 63 → IsWithin limit z → signed_of limit (signed_text z) ≡ Ok z

abbrev pub OctetsReadBack : Type 0
OctetsReadBack = (s : List ℕ) → IsBytes s → octets_of (octets_text s) ≡ Ok s

abbrev pub ReferencesReadBack : Type 0
ReferencesReadBack = (r : SymRef) → r.pkg < package_limit → r.sym < 2 ^ 32 → target_of (target_text r) ≡ Ok r

abbrev pub StringsReadBack : Type 0
StringsReadBack = (s : List ℕ) → NoZeros s → string_of (string_text s) ≡ Ok s

-- The canonical text of a printable description reads as the description, where its numbers are within their types and its
-- strings are of bytes, as those of each value are.
abbrev pub TextsReadBack : Type 0
TextsReadBack = (d : ObjDesc) → IsPrintable d → IsTyped d → HasBytes d → read_text (text_of d) ≡ Ok d
