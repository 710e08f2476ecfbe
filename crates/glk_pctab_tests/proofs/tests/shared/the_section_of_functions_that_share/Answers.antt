use Rattle.glk_pctab_tests.proofs.WriteLemmas.{sharing_can_write}
use Rattle.glk_pctab_tests.proofs.tests.shared.the_section_of_functions_that_share.Goals as goal

pub build-requires : goal.build-requires
build-requires g c = sharing_can_write
