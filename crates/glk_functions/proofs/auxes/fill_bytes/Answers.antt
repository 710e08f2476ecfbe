use Rattle.std.proofs.Common.{◌++◌, ◌∙◌, sym, ap, map}
use Rattle.std.proofs.lemmas.List.Elements.{All-push}
use Rattle.glk_merge.specs.Mergings.{IsTargetKey}
use Rattle.glk_tables.specs.Function.{IsSmall}
use Rattle.glk_tables.specs.Views.{target_view}
use Rattle.glk_functions.specs.Auxes.{bytes_of}
use Rattle.glk_functions.proofs.Named.{all_next, pushes, named_here, named_later}
use Rattle.glk_functions.proofs.auxes.fill_bytes.Goals as goal

pub loop-rest-preserved-in_ok-push : goal.loop-rest-preserved-in_ok-push
loop-rest-preserved-in_ok-push c =
    let p = c.args.merged.now.program in
    let rest = c.loop-rest.rest.now in
    let out = c.loop-rest.out.items in
    let here = named_here c.args.kind rest _ c.in-len1-up.len_at_least c.if-first-kind.true in
    record {
      value = pushes target_view out c.push.new.self.items c.bytes_of.result _ _ _ c.in_ok-push.ensures.items c.bytes_of.ensures.value
          (ap (λ ts. map target_view out ++ map (bytes_of p) ts) (sym here) ∙ c.loop-rest.invariant.value);
      small = rw c.in_ok-push.ensures.items (All-push (λ target. IsSmall (target_view target)) out c.bytes_of.result c.loop-rest.invariant.small c.bytes_of.ensures.small);
      keys = all_next (λ aux. IsTargetKey p aux.target) rest c.loop-rest.invariant.keys;
    }

pub loop-rest-preserved : goal.loop-rest-preserved
loop-rest-preserved c =
    let p = c.args.merged.now.program in
    let rest = c.loop-rest.rest.now in
    let later = named_later c.args.kind rest _ c.in-len1-up.len_at_least c.if-first-kind.false in
    record {
      value = ap (λ ts. map target_view c.loop-rest.out.items ++ map (bytes_of p) ts) later ∙ c.loop-rest.invariant.value;
      small = c.loop-rest.invariant.small;
      keys = all_next (λ aux. IsTargetKey p aux.target) rest c.loop-rest.invariant.keys;
    }
