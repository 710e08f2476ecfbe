use Rattle.std.proofs.Common.{◌++◌, ◌∙◌, sym, ap, map}
use Rattle.glk_merge.specs.Mergings.{IsTargetKey}
use Rattle.glk_functions.specs.Auxes.{funcdata_of}
use Rattle.glk_functions.proofs.Named.{all_next, pushes_same, named_here, named_later}
use Rattle.glk_functions.proofs.auxes.fill_funcdata.Goals as goal

pub loop-rest-preserved-in_ok-push : goal.loop-rest-preserved-in_ok-push
loop-rest-preserved-in_ok-push c =
    let p = c.args.merged.now.program in
    let rest = c.loop-rest.rest.now in
    let out = c.loop-rest.out.items in
    let here = named_here c.args.kind rest _ c.in-len1-up.len_at_least c.if-first-kind.true in
    record {
      value = pushes_same out c.push.new.self.items c.funcdata_of.result _ _ _ c.in_ok-push.ensures.items c.funcdata_of.ensures
          (ap (λ ts. out ++ map (funcdata_of p) ts) (sym here) ∙ c.loop-rest.invariant.value);
      keys = all_next (λ aux. IsTargetKey p aux.target) rest c.loop-rest.invariant.keys;
    }

pub loop-rest-preserved : goal.loop-rest-preserved
loop-rest-preserved c =
    let p = c.args.merged.now.program in
    let rest = c.loop-rest.rest.now in
    let later = named_later c.args.kind rest _ c.in-len1-up.len_at_least c.if-first-kind.false in
    record {
      value = ap (λ ts. c.loop-rest.out.items ++ map (funcdata_of p) ts) later ∙ c.loop-rest.invariant.value;
      keys = all_next (λ aux. IsTargetKey p aux.target) rest c.loop-rest.invariant.keys;
    }
