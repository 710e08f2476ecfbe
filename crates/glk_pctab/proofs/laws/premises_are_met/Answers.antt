use Rattle.std.proofs.Common.{refl}
use Rattle.glk_pctab.proofs.WitnessLemmas.{one_is_sound, one_is_apart, one_frames}
use Rattle.glk_pctab.proofs.laws.premises_are_met.Goals as goal

pub returns-clause-sound : goal.returns-clause-sound
returns-clause-sound c = one_is_sound

pub returns-clause-apart : goal.returns-clause-apart
returns-clause-apart c = one_is_apart

pub returns-clause-inlined : goal.returns-clause-inlined
returns-clause-inlined c = refl

pub returns-clause-shown : goal.returns-clause-shown
returns-clause-shown c = one_frames
