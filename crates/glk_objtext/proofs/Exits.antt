-- What a function that passes a refusal on answers.
use Rattle.std.proofs.Common.{◌≡◌, ℕ, Result, Ok, Err, sym, subst}
use Rattle.std.specs.Result.{IsErrAnd}
use Rattle.glk_base.specs.declared.fault.Fault.{Fault}
use Rattle.glk_base.specs.declared.fault.Fault.TheVariants.{Bad, OutOfMemory}
use Rattle.glk_objtext.specs.Answers.{Gives}

-- the rule that a part breaks is the whole's
passed : {A B : Type 0} (part : Result B ℕ) (whole : Result A ℕ) (e : Fault ℕ) → Gives part (Err e) → ((rule : ℕ) → part ≡ Err rule → whole ≡ Err rule) → Gives whole (Err e)
passed part whole (Bad rule) broken same = same rule broken
passed part whole OutOfMemory broken same = tt

pub stopped : {A B : Type 0} (part : Result B ℕ) (whole : Result A ℕ) (r : Result A (Fault ℕ)) (e : Fault ℕ)
    → IsErrAnd r (λ f. f ≡ e) → Gives part (Err e) → ((rule : ℕ) → part ≡ Err rule → whole ≡ Err rule) → Gives whole r
stopped {A} {B} part whole (Ok x) e was broken same = absurd was
stopped {A} {B} part whole (Err f) e was broken same = let P : Fault ℕ → Type 0 = λ g. Gives whole (Err g) in subst P (sym was) (passed part whole e broken same)
