use Rattle.std.proofs.Common.{Some, sym, ap, ◌∙◌}
use Rattle.glk_table.specs.declared.ranks.RankClass.{RankClass}
use Rattle.glk_keys.proofs.BlockLaws.{class_at}
use Rattle.glk_keys.specs.declared.blocks.SymbolBlock.TheVariants.{Symdef, Hashed64def, Hasheddef, Nonpkgdef, Nonpkgref}
use Rattle.glk_keys.proofs.ballot.object_class.Goals as goal

pub returns-in-Symdef : goal.returns-in-Symdef
returns-in-Symdef c = λ n. ap (λ (k : RankClass). Some k) c.flag_class.ensures ∙ sym (class_at n c.args.i c.args.object.now Symdef c.in-Symdef.ensures.origin c.in-Symdef.ensures.inside)

pub returns-in-Hashed64def : goal.returns-in-Hashed64def
returns-in-Hashed64def c = λ n. sym (class_at n c.args.i c.args.object.now Hashed64def c.in-Hashed64def.ensures.origin c.in-Hashed64def.ensures.inside)

pub returns-in-Hasheddef : goal.returns-in-Hasheddef
returns-in-Hasheddef c = λ n. sym (class_at n c.args.i c.args.object.now Hasheddef c.in-Hasheddef.ensures.origin c.in-Hasheddef.ensures.inside)

pub returns-in-Nonpkgdef : goal.returns-in-Nonpkgdef
returns-in-Nonpkgdef c = λ n. ap (λ (k : RankClass). Some k) c.flag_class-in-Nonpkgdef.ensures ∙ sym (class_at n c.args.i c.args.object.now Nonpkgdef c.in-Nonpkgdef.ensures.origin c.in-Nonpkgdef.ensures.inside)

pub returns-in-Nonpkgref : goal.returns-in-Nonpkgref
returns-in-Nonpkgref c = λ n. sym (class_at n c.args.i c.args.object.now Nonpkgref c.in-Nonpkgref.ensures.origin c.in-Nonpkgref.ensures.inside)
