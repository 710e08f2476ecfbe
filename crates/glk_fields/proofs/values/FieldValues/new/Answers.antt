use Rattle.std.proofs.Common.{◌≡◌, ◌∙◌, ℕ, Option, ap}
use Rattle.glk_fields.specs.Values.{stand_ins_of, stand_in_address}
use Rattle.glk_reloc.specs.declared.references.StandIns.{StandIns}
use Rattle.glk_fields.proofs.values.FieldValues.new.Goals as goal

both : (a b x y : Option ℕ) → a ≡ x → b ≡ y
    → ◌≡◌ {A = StandIns} (record { unreachable_method = a; mapinit_noop = b }) (record { unreachable_method = x; mapinit_noop = y })
both a b x y e f = λ z. record { unreachable_method = e z; mapinit_noop = f z }

pub invariant_of-result : goal.invariant_of-result
invariant_of-result c =
    both c.stand_in_address.result c.stand_in_address-2.result (stand_ins_of c.args.placement.now).unreachable_method (stand_ins_of c.args.placement.now).mapinit_noop
    (c.stand_in_address.ensures ∙ ap (stand_in_address c.args.placement.now) c.as_bytes.ensures.value)
    (c.stand_in_address-2.ensures ∙ ap (stand_in_address c.args.placement.now) c.as_bytes-2.ensures.value)
