use Rattle.glk_pctab.specs.Functions.{func}
use Rattle.glk_pctab.specs.Section.{module_of}
use Rattle.glk_pctab.proofs.ReadBack.{record_in, is_written}
use Rattle.glk_pctab.proofs.laws.section_reads_back.Goals as goal

pub returns : goal.returns
returns c = λ t base others is i inside. c.frames_read_back.ensures (module_of t base others) i (func t i) (record_in t i) (is_written t base others is i inside)
