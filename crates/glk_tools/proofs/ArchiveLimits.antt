-- Objects and archives past their limits.
use Rattle.std.proofs.Common.{◌≡◌, ◌<◌, ℕ, length, nat_lt, true, Err, refl, subst, arith}
use Rattle.std.proofs.lemmas.Bool.Decides.{nat_tests}
use Rattle.glk_base.specs.declared.fault.TooBig.{TooBig}
use Rattle.glk_base.specs.declared.fault.Fault.{Fault}
use Rattle.glk_base.specs.declared.fault.Fault.TheVariants as fault
use Rattle.glk_objdesc.specs.declared.desc.ObjDesc.{ObjDesc}
use Rattle.glk_objdesc.specs.Canonical.{object_bytes, object_limit, clamped, IsPast, Refuses}
use Rattle.glk_tools.specs.declared.text_archive.MakeBad.TheVariants as bad
use Rattle.glk_tools.specs.TextArchive.{archive_of_description, too_big}

past : (a b : ℕ) → a < b → nat_lt a b ≡ true
past a b l = grind (arith, nat_tests, l)

refused : (d : ObjDesc) (n : ℕ) → object_limit < length (object_bytes d) → n ≡ clamped (length (object_bytes d)) → archive_of_description d ≡ Err (too_big n)
refused d n above is = rw (past object_limit (length (object_bytes d)) above) (rw is refl)

pub object_past : (d : ObjDesc) (big : TooBig) → IsPast d big → archive_of_description d ≡ Err (bad.Big big)
object_past d big h = refused d big.number h.0 h.1

pub object_refused : (d : ObjDesc) (f : Fault TooBig) (big : TooBig) → Refuses d f → f ≡ fault.Bad big → archive_of_description d ≡ Err (bad.Big big)
object_refused d (fault.Bad b) big h is = let same : b ≡ big = cc in object_past d big (subst (λ (x : TooBig). IsPast d x) same h)
object_refused d fault.OutOfMemory big h is = cc
