use Rattle.std.proofs.Common.{◌∙◌, ap, get_or, false, ◌≡◌, ℕ}
use Rattle.glk_pctab.specs.Functions.{entries_named}
use Rattle.glk_pctab.specs.Section.{entries_from, is_number_among}
use Rattle.glk_pctab.specs.Views.{texts_of, units_view, functions_view}
use Rattle.std.specs.Prelude.{List, Bool}
use Rattle.glk_pctab.proofs.FileSteps.{entries_same}
use Rattle.glk_pctab.proofs.files.entries_of.Goals as goal

pub returns : goal.returns
returns c =
    let list = entries_named (units_view c.args.units.now) (functions_view c.args.functions.now) in
    let same : (j : ℕ) → get_or c.deref.result.now j false ≡ is_number_among list j = λ j. ap (λ (xs : List Bool). get_or xs j false) c.deref.ensures.value ∙ c.in_ok-named.ensures.named j in
    c.in_ok-entries.ensures ∙ entries_same c.deref.result.now list 0 (texts_of c.args.files.now) same ∙ ap (λ (fs : List (List ℕ)). entries_from list 0 fs) c.requires.files
