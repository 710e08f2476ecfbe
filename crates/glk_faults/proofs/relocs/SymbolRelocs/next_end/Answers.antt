use Rattle.std.proofs.Common.{◌≡◌, true, false, refl, sym, ◌∙◌, arith}
use Rattle.glk_faults.proofs.relocs.SymbolRelocs.next_end.Goals as goal

pub returns-then-not-is_field : goal.returns-then-not-is_field
returns-then-not-is_field c = record {
  zeros_are = λ t. absurd (let bad : true ≡ false = sym t ∙ sym c.is_field.ensures ∙ c.if-not-is_field.true in cc);
  rises = λ t. absurd (let bad : true ≡ false = sym t ∙ sym c.is_field.ensures ∙ c.if-not-is_field.true in cc);
  same = λ f. refl;
}

pub returns : goal.returns
returns c = record {
  zeros_are = λ t. cc;
  rises = λ t. (omega arith, omega arith);
  same = λ f. absurd (let bad : false ≡ true = sym f ∙ sym c.is_field.ensures ∙ c.if-not-is_field.false in cc);
}
