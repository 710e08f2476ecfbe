-- The answer that must come.
use Rattle.std.specs.Prelude.{◌≡◌, ◌⊎◌, Result, Ok, Err, IsOk}
use Rattle.glk_base.specs.declared.fault.Fault.{Fault}
use Rattle.glk_base.specs.declared.fault.Fault.TheVariants as fault
use Rattle.glk_cause.specs.declared.cause.Cause.{Cause}

-- Known files give this: a whole output, or the first refusal. That answer comes, or the call is out of memory, where no
-- read failed, and for an output no write.
abbrev pub MustAnswer : {B C : Type 0} → Type 0 → Type 0 → Result B Cause → Result C (Fault Cause) → Type 0
MustAnswer read_failed write_failed (Ok given) result =
    ¬ read_failed → ¬ write_failed → IsOk result ⊎ (result ≡ Err fault.OutOfMemory)
MustAnswer read_failed write_failed (Err refusal) result =
    ¬ read_failed → (result ≡ Err (fault.Bad refusal)) ⊎ (result ≡ Err fault.OutOfMemory)
