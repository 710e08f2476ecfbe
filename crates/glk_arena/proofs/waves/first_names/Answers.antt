use Rattle.std.proofs.Common.{◌∙◌, ◌++◌, ◌∷◌, [], ap, sym}
use Rattle.glk_arena.specs.ConfigViews.{file_in}
use Rattle.glk_arena.specs.Waves.{main_package, runtime_package}
use Rattle.glk_arena.proofs.WaveSteps.{first_listed, first_alone}
use Rattle.glk_arena.proofs.waves.first_names.Goals as goal

pub returns-in_ok-push-in-Some : goal.returns-in_ok-push-in-Some
returns-in_ok-push-in-Some c =
    let front = c.in_ok-push.ensures ∙ ap (λ l. l ++ main_package ∷ []) c.new-names.ensures in
    c.in_ok-push-in-Some.ensures ∙ ap (λ l. l ++ runtime_package ∷ []) front ∙ sym (first_listed (file_in c.args.config.now) _ c.in-Some.ensures)

pub returns-in-None : goal.returns-in-None
returns-in-None c =
    let front = c.in_ok-push.ensures ∙ ap (λ l. l ++ main_package ∷ []) c.new-names.ensures in
    front ∙ sym (first_alone (file_in c.args.config.now) c.in-None.ensures)
