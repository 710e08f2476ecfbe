use Rattle.std.proofs.Common.{◌≡◌, ◌++◌, List, Bool, length, take, drop, sym, ap, ◌∙◌, subst, arith}
use Rattle.std.proofs.Math.Seq.{take-append_seam}
use Rattle.glk_merge.specs.KeyTables.{AreIfaceFlags}
use Rattle.glk_merge.proofs.iface_flags.iface_flags.Goals as goal

pub returns : goal.returns
returns c =
    let flags = c.mark_all.new.flags in
    let rest = drop (length flags) c.resize.new.self.items in
    let long : c.resize.new.self.len ≡ length flags = let a = c.mark_all.ensures.long in let b = c.resize.ensures.len in let d = c.count.ensures.value in omega arith in
    let same : take c.resize.new.self.len (flags ++ rest) ≡ flags = ap (λ n. take n (flags ++ rest)) long ∙ take-append_seam flags rest in
    let P : List Bool → Type 0 = λ l. AreIfaceFlags c.args.rows.now l in
    subst P (sym same) c.mark_all.ensures
