use Rattle.glk_closure.specs.Reach.{Kept, Iface}
use Rattle.glk_closure.proofs.kept.kept_set.Goals as goal

pub returns : goal.returns
returns g c =
    let l = c.in_ok-marks.ensures.least in
    let e = c.in_ok-marks.ensures.covers in
    record { kept = λ k. l (Kept k); iface = λ k. l (Iface k); kept_keys = e.kept; iface_keys = e.iface }
