use Rattle.std.proofs.Common.{arith, ◌+◌}
use Rattle.std.proofs.lemmas.List.{take_rest}
use Rattle.glk_arena.proofs.ConfigLemmas.{cut_is_text}
use Rattle.glk_arena.proofs.config.package.Goals as goal

pub returns-in-Err : goal.returns-in-Err
returns-in-Err c = λ good. absurd (c.in-Err.ensures.cases.0 (cut_is_text c.args.line.now _ _ c.first_of-i.result (take_rest c.args.line.now 12) (take_rest _ (c.first_of-i.result + 1)) c.requires.text c.requires.word c.first_of-i.ensures.place (omega arith)))
