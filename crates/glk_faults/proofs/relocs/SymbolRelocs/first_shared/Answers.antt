use Rattle.std.proofs.Common.{◌≡◌, ◌+◌, ◌<◌, ◌^◌, ℕ, false, true, length, Option, sym, ap, ◌∙◌, arith, below_more}
use Rattle.std.specs.Option.{option_map_or}
use Rattle.glk_obj.specs.Records.{field_start}
use Rattle.glk_obj.specs.declared.kinds.RelocKind.{RelocKind}
use Rattle.glk_reach.specs.Chosen.{key_relocs}
use Rattle.glk_reach.specs.RelocFaults.{reloc_in, is_field, shares_byte_with_earlier}
use Rattle.glk_reach.specs.RelocKinds.{is_field_kind}
use Rattle.glk_faults.proofs.Finds.{find_at, find_none}
use Rattle.glk_faults.proofs.Sharing.{none_taken, no_field, passed, shares_one, shares_none, one_taken}
use Rattle.glk_faults.proofs.Sizes.{sized}
use Rattle.glk_faults.proofs.relocs.SymbolRelocs.first_shared.Goals as goal

pub loop-i-init : goal.loop-i-init
loop-i-init c =
    let s = c.args.self.now in
    record {
      met = none_taken s.merged.now.program s.key c.new-taken.result c.new-taken.ensures.empty;
      apart = λ j h. absurd (omega arith);
      small = λ j h. absurd (omega arith);
    }

pub loop-i-preserved-then-not-is_field : goal.loop-i-preserved-then-not-is_field
loop-i-preserved-then-not-is_field c =
    let s = c.args.self.now in
    let p = s.merged.now.program in
    let i = c.loop-i.i in
    let met = c.loop-i.invariant.met in
    let not_so : is_field p s.key i ≡ false = ap (λ (o : Option RelocKind). option_map_or is_field_kind o false) (sym c.facts-facts.ensures.kind) ∙ sym c.is_field.ensures ∙ c.if-not-is_field.true in
    let here : field_start (reloc_in p s.key i) < 2 ^ 32 = (let e = c.facts-facts.ensures.start in let h = c.facts-facts.ensures.small in omega arith) in
    record {
      met = passed p s.key i c.loop-i.taken met not_so;
      apart = below_more _ _ c.loop-i.invariant.apart (no_field p s.key i c.loop-i.taken met not_so);
      small = below_more _ _ c.loop-i.invariant.small here;
    }

pub returns-then-is_taken : goal.returns-then-is_taken
returns-then-is_taken c =
    let s = c.args.self.now in
    let p = s.merged.now.program in
    let i = c.loop-i.i in
    let is_so : is_field p s.key i ≡ true = ap (λ (o : Option RelocKind). option_map_or is_field_kind o false) (sym c.facts-facts.ensures.kind) ∙ sym c.is_field.ensures ∙ c.if-not-is_field.false in
    let shared = shares_one p s.key i c.loop-i.taken c.loop-i.invariant.met c.facts-facts.result.start c.facts-facts.result.size c.facts-facts.ensures.start c.facts-facts.ensures.size is_so (c.is_taken.ensures.some c.if-is_taken.true) in
    sym (find_at (shares_byte_with_earlier p s.key) (length (key_relocs p s.key)) i (omega arith) shared c.loop-i.invariant.apart)

pub loop-i-preserved : goal.loop-i-preserved
loop-i-preserved c =
    let s = c.args.self.now in
    let p = s.merged.now.program in
    let i = c.loop-i.i in
    let is_so : is_field p s.key i ≡ true = ap (λ (o : Option RelocKind). option_map_or is_field_kind o false) (sym c.facts-facts.ensures.kind) ∙ sym c.is_field.ensures ∙ c.if-not-is_field.false in
    let apart = c.is_taken.ensures.none c.if-is_taken.false in
    let inside : i < length (key_relocs p s.key) = omega arith in
    let all = sized p s.key c.requires in
    let each = λ (j : ℕ) (h : j < i + 1). all j (omega arith) in
    let here : field_start (reloc_in p s.key i) < 2 ^ 32 = (let e = c.facts-facts.ensures.start in let h = c.facts-facts.ensures.small in omega arith) in
    let none = shares_none p s.key i c.loop-i.taken c.loop-i.invariant.met c.facts-facts.result.start c.facts-facts.result.size c.facts-facts.ensures.start c.facts-facts.ensures.size apart each c.loop-i.invariant.small in
    let met = one_taken p s.key i c.loop-i.taken c.loop-i.invariant.met c.facts-facts.result.start c.facts-facts.result.size c.facts-facts.ensures.start c.facts-facts.ensures.size apart each c.loop-i.invariant.small is_so c.insert.new.self c.in_ok-insert.ensures.updates.0 in
    record {
      met = met;
      apart = below_more _ _ c.loop-i.invariant.apart none;
      small = below_more _ _ c.loop-i.invariant.small here;
    }

pub returns : goal.returns
returns c =
    let s = c.args.self.now in
    let p = s.merged.now.program in
    sym (find_none (shares_byte_with_earlier p s.key) (length (key_relocs p s.key)) (λ j h. c.loop-i.invariant.apart j (omega arith)))
