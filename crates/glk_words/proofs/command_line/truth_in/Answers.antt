use Rattle.std.proofs.Common.{◌≡◌, true, None, sym, ◌∙◌}
use Rattle.std.proofs.lemmas.Bool.{false≢true}
use Rattle.glk_words.specs.Values.{is_some, truth_of}
use Rattle.glk_words.proofs.Settings.{truth_accepted}
use Rattle.glk_words.proofs.command_line.truth_in.Goals as goal

pub unreachable-requires : goal.unreachable-requires
unreachable-requires c =
    let some : is_some (truth_of c.args.value.now) ≡ true = truth_accepted c.args.flag c.args.value.now c.requires.truth c.requires.accepted in
    let none : truth_of c.args.value.now ≡ None = sym c.truth.ensures ∙ c.in-None.is in
    absurd (false≢true (rw none at some))
