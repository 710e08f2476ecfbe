-- A configuration file: it is read, and then its lines.
use Rattle.std.proofs.Common.{◌≡◌, List, ℕ, Option, Some, None, Ok, Err, refl, sym, ap, subst}
use Rattle.std.specs.Prelude.{Result}
use Rattle.glk_cause.specs.declared.cause.Cause.{Cause}
use Rattle.glk_base.specs.declared.fault.Fault.{Fault}
use Rattle.glk_io.specs.Contents.{Contents, IfKnown}
use Rattle.glk_io.specs.Changes.{FileState}
use Rattle.glk_cause.specs.Sorts.{Sort, by_reads, by_writes, of_file, of_package, of_input, of_config, of_options, of_link, foreign, sort_of}
use Rattle.glk_cause.specs.Chain.{goes_on, stops, Answers}
use Rattle.glk_cause.specs.Reading.{AnswersByReading, IsOfPath, IsWhole}
use Rattle.glk_cause.proofs.ReadingLaws.{always, always_known, IsPure, reading_stopped, reading_ends}
use Rattle.glk_link.specs.Config.{LineRule, Saying, config_limit, Parses, bad, good, Tells, IsOfConfig, ConfigAnswer}

config_only : (path : List ℕ) (s : Sort) → IsOfPath path s → IsOfConfig (Some path) s
config_only path (by_reads named count) h = let same : named ≡ path = h in cc
config_only path (by_writes named count) h = absurd h
config_only path (of_file named) h = let same : named ≡ path = h in cc
config_only path (of_package named) h = absurd h
config_only path (of_input named) h = absurd h
config_only path (of_config named) h = absurd h
config_only path of_options h = absurd h
config_only path of_link h = absurd h
config_only path foreign h = absurd h

module _ {A C : Type 0} (Good : LineRule) (Says : Saying A) (untold : A) (view : C → A) where
  -- what a call answers that reads this file
  abbrev pub ReadsFile : FileState → FileState → Option (List ℕ) → Result C (Fault Cause) → Type 0
  ReadsFile old new config r = ConfigAnswer old new (Tells Good Says untold) view config r

  -- the file was not read
  pub not_read : (old new : FileState) (config : Option (List ℕ)) (path seen : List ℕ) → config ≡ Some path → seen ≡ path → (e : Fault Cause)
      → AnswersByReading {C = List ℕ} old new (IsOfPath seen) (IsWhole seen config_limit config_limit) (λ text. text) (Err e) → ReadsFile old new config (Err e)
  not_read old new config path seen given same e h =
      let P : Option (List ℕ) → Type 0 = λ o. ReadsFile old new o (Err e) in
      let Q : List ℕ → Type 0 = λ p. AnswersByReading {C = List ℕ} old new (IsOfPath p) (IsWhole p config_limit config_limit) (λ text. text) (Err e) in
      subst P (sym given)
      (reading_stopped old new (IsOfPath path) (IsOfConfig (Some path)) (IsWhole path config_limit config_limit) (λ held. Tells Good Says untold held (Some path)) (λ (t : List ℕ). t) view
      (config_only path) (always old.contents (λ held refusal is. stops refusal is)) e (subst Q same h))

  -- a bad line is one of the file
  bad_line : (path text : List ℕ) (refusal : Cause) → Parses Good Says path text (Err refusal) → IsOfConfig (Some path) (sort_of refusal) × IsPure (sort_of refusal)
  bad_line path text refusal h = go (Err refusal) h refl
    where
      go : (answer : Result A Cause) → Parses Good Says path text answer → answer ≡ Err refusal → IsOfConfig (Some path) (sort_of refusal) × IsPure (sort_of refusal)
      go answer (bad n first) e = subst (λ (c : Cause). IsOfConfig (Some path) (sort_of c) × IsPure (sort_of c)) (same _ e) (refl, tt)
        where
          same : (c : Cause) → (let r : Result A Cause = Err c in r) ≡ Err refusal → c ≡ refusal
          same c e = cc
      go answer (good said all is) e = absurd (clash said e)
        where
          clash : (a : A) → (let r : Result A Cause = Ok a in r) ≡ Err refusal → ⊥
          clash a e = cc

  -- the file was read, and its lines say this
  pub parsed : (old new : FileState) (config : Option (List ℕ)) (path seen named : List ℕ) → config ≡ Some path → seen ≡ path → named ≡ path
      → (text bytes : List ℕ) → bytes ≡ text
      → AnswersByReading {C = List ℕ} old new (IsOfPath seen) (IsWhole seen config_limit config_limit) (λ t. t) (Ok text)
      → (r : Result C (Fault Cause)) → Answers (Parses Good Says named bytes) view r → ReadsFile old new config r
  parsed old new config path seen named given same too text bytes is h r answers =
      let P : Option (List ℕ) → Type 0 = λ o. ReadsFile old new o r in
      let Q : List ℕ → Type 0 = λ p. IfKnown old.contents (λ held. IsWhole p config_limit config_limit held (Ok text)) in
      let R : List ℕ → Type 0 = λ p. Answers (Parses Good Says p bytes) view r in
      let T : List ℕ → Type 0 = λ t. Answers (Parses Good Says path t) view r in
      subst P (sym given)
      (reading_ends old new (IsOfConfig (Some path)) (Parses Good Says path text) (λ held. Tells Good Says untold held (Some path)) view h.0 (bad_line path text)
      (always_known _ _ old.contents (λ held read answer p. goes_on text answer read p) (subst Q same h.1)) r (subst T is (subst R too answers)))

  -- there is no file
  pub not_given : (state : FileState) (config : Option (List ℕ)) (c : C) → config ≡ None → view c ≡ untold → ReadsFile state state config (Ok c)
  not_given state config c none is =
      let P : Option (List ℕ) → Type 0 = λ o. ReadsFile state state o (Ok c) in
      subst P (sym none) (refl, always state.contents (λ held. ap Ok is))
