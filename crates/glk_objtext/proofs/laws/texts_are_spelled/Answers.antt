use Rattle.std.proofs.Common.{List, ℕ, subst}
use Rattle.glk_objtext.specs.Spelled.{Spells}
use Rattle.glk_objtext.specs.Text.{text_of}
use Rattle.glk_objtext.proofs.CanonicalLines.{text_is}
use Rattle.glk_objtext.proofs.TextLaws.{text_back}
use Rattle.glk_objtext.proofs.TextForms.{first_bad, spelled}
use Rattle.glk_objtext.proofs.laws.texts_are_spelled.Goals as goal

pub returns-clause-descriptions : goal.returns-clause-descriptions
returns-clause-descriptions c = spelled

pub returns-clause-refusals : goal.returns-clause-refusals
returns-clause-refusals c = first_bad

pub returns-clause-canonical : goal.returns-clause-canonical
returns-clause-canonical c = λ d printable typed bytes. subst (λ (text : List ℕ). Spells text d) (text_is d) ((spelled (text_of d) d).0 (text_back d printable typed bytes))
