-- `addr2line`: its file is read, then standard input, and the answers of its lines are printed.
use Rattle.std.proofs.Common.{◌≡◌, ◌⊎◌, ◌∙◌, List, ℕ, Bool, Option, Some, None, Ok, Err, refl, sym, ap, subst, inl, inr}
use Rattle.std.specs.Prelude.{Result, IfSome}
use Rattle.glk_base.specs.declared.fault.Fault.{Fault}
use Rattle.glk_base.specs.declared.fault.Fault.TheVariants as fault
use Rattle.glk_io.specs.Counts.{Rose}
use Rattle.glk_io.specs.Contents.{IfKnown}
use Rattle.glk_io.specs.Changes.{FileState, SourceState, SinkState}
use Rattle.glk_cause.specs.declared.cause.Cause.{Cause}
use Rattle.glk_cause.specs.declared.cause.Cause.TheVariants as cause
use Rattle.glk_cause.specs.Sorts.{Sort, by_reads, by_writes, of_file, of_package, of_input, of_config, of_options, of_link, foreign}
use Rattle.glk_cause.specs.Chain.{Then, stops, goes_on, IsOneAt}
use Rattle.glk_cause.specs.Reading.{AnswersByReading, IsOfPath, IsWhole}
use Rattle.glk_cause.specs.Printing.{AnswersByPrinting}
use Rattle.glk_cause.proofs.ChainLaws.{then_one}
use Rattle.glk_cause.proofs.ReadingLaws.{always, always_known, reading_stopped}
use Rattle.glk_cause.proofs.PrintingLaws.{printing_stopped, printing_done, printing_failed}
use Rattle.glk_elf.specs.ReaderFile.{IsElf}
use Rattle.glk_elf.specs.ReaderSections.{FileSection, section_named}
use Rattle.glk_frames.specs.Region.{IsRegion}
use Rattle.glk_frames_reader.specs.Opening.{FileModule, tables_section, section_module, IsSectionModule, BreaksTables}
use Rattle.glk_addr2line.specs.Texts.{input_text}
use Rattle.glk_addr2line.specs.Answers.{IsAddressText}
use Rattle.glk_tools.specs.MustAnswer.{MustAnswer}
use Rattle.glk_tools.specs.Images.{image_limit, IsNoImage}
use Rattle.glk_tools.specs.Stdin.{stdin, input_limit, IsWholeInput, ReadsInput}
use Rattle.glk_tools.specs.Stdout.{stdout}
use Rattle.glk_tools.specs.Addr2line.{HasNoFunctions, IsAnswersOf, GivesAnswers, IsOneAnswering, GivesToKnown, Addr2lineAllows, AnswersAddresses, Addr2lineAnswer, Addr2lineUnlessIoFails}
use Rattle.glk_tools.proofs.ImageLaws.{one_refusal, no_image}
use Rattle.glk_tools.proofs.MustAnswers.{printing_must}

-- A file and an input have one answer.

same_section : (s t : FileSection) (o : Option FileSection) → o ≡ Some s → o ≡ Some t → s ≡ t
same_section s t o e k = cc

no_section : (s : FileSection) (o : Option FileSection) → o ≡ Some s → o ≡ None → ⊥
no_section s o e k = cc

one_module : (file : List ℕ) (m n : FileModule) → IsSectionModule file m → IsSectionModule file n → m ≡ n
one_module file m n h k =
    h.is ∙ ap (section_module file) (same_section h.section k.section (section_named file tables_section) h.first k.first) ∙ sym k.is

one_text : (inline : Bool) (file input a b : List ℕ) → IsAddressText inline file input a → IsAddressText inline file input b → a ≡ b
one_text inline file input a b h k =
    h.is ∙ ap (λ m. input_text m inline input) (one_module file h.functions k.functions h.of_section k.of_section) ∙ sym k.is

-- a file with functions is not refused for having none
has_functions : (file : List ℕ) (m : FileModule) (rule offset : ℕ) → IsSectionModule file m → BreaksTables file rule offset → ⊥
has_functions file m rule offset h (at, inl (is, none)) = no_section h.section (section_named file tables_section) h.first none
has_functions file m rule offset h (at, inr (is, bad)) =
    bad.bad (subst (λ (s : FileSection). IsRegion s.bytes) (same_section h.section bad.section (section_named file tables_section) h.first bad.first) h.region)

one_rule : (file : List ℕ) (r o q p : ℕ) → BreaksTables file r o → BreaksTables file q p → (r ≡ q) × (o ≡ p)
one_rule file r o q p (at, inl (is, none)) (there, inl (same, none2)) = (is ∙ sym same, at ∙ sym there)
one_rule file r o q p (at, inl (is, none)) (there, inr (same, bad)) = absurd (no_section bad.section (section_named file tables_section) bad.first none)
one_rule file r o q p (at, inr (is, bad)) (there, inl (same, none)) = absurd (no_section bad.section (section_named file tables_section) bad.first none)
one_rule file r o q p (at, inr (is, bad)) (there, inr (same, bad2)) = (is ∙ sym same, at ∙ sym there)

one_lack : (path file : List ℕ) (a b : Cause) → HasNoFunctions path file a → HasNoFunctions path file b → a ≡ b
one_lack path file a b h k =
    let same = one_rule file h.rule h.offset k.rule k.offset h.broken k.broken in
    h.refusal_is ∙ ap (λ r. cause.ElfBad path r h.offset) same.0 ∙ ap (λ o. cause.ElfBad path k.rule o) same.1 ∙ sym k.refusal_is

one_cause : (path file : List ℕ) (a b : Cause) → IsNoImage path file a ⊎ (IsElf file × HasNoFunctions path file a)
    → IsNoImage path file b ⊎ (IsElf file × HasNoFunctions path file b) → a ≡ b
one_cause path file a b (inl h) (inl k) = one_refusal path file a b h k
one_cause path file a b (inl h) (inr k) = absurd (no_image path file a k.0 h)
one_cause path file a b (inr h) (inl k) = absurd (no_image path file b h.0 k)
one_cause path file a b (inr h) (inr k) = one_lack path file a b h.1 k.1

no_cause : (inline : Bool) (path file input text : List ℕ) (refusal : Cause) → IsElf file × IsAddressText inline file input text
    → IsNoImage path file refusal ⊎ (IsElf file × HasNoFunctions path file refusal) → ⊥
no_cause inline path file input text refusal h (inl k) = no_image path file refusal h.0 k
no_cause inline path file input text refusal h (inr k) = has_functions file h.1.functions k.1.rule k.1.offset h.1.of_section k.1.broken

one_of_bytes : (inline : Bool) (path file input : List ℕ) (a b : Result (List ℕ) Cause) → IsAnswersOf inline path file input a → IsAnswersOf inline path file input b → a ≡ b
one_of_bytes inline path file input (Ok a) (Ok b) x y = ap (λ t. Ok t) (one_text inline file input a b x.1 y.1)
one_of_bytes inline path file input (Ok a) (Err b) x y = absurd (no_cause inline path file input a b x y)
one_of_bytes inline path file input (Err a) (Ok b) x y = absurd (no_cause inline path file input b a y x)
one_of_bytes inline path file input (Err a) (Err b) x y = ap (λ r. Err r) (one_cause path file a b x y)

one_input : (inline : Bool) (path input file : List ℕ) → IsOneAt (Then IsWholeInput (IsAnswersOf inline path file)) input
one_input inline path input file = then_one input (λ x y h k. h ∙ sym k) (λ text t. one_of_bytes inline path file text)

pub one_answering : IsOneAnswering
one_answering inline path input files =
    then_one files (λ x y h k. h ∙ sym k)
    (λ file s. one_input inline path input file)

-- What is left of standard input may be known.

some_always : {X : Type 0} {P : X → Type 0} (left : Option X) → ((x : X) → P x) → IfSome left P
some_always None f = tt
some_always (Some x) f = f x

some_map : {X : Type 0} (P Q : X → Type 0) (left : Option X) → ((x : X) → P x → Q x) → IfSome left P → IfSome left Q
some_map P Q None f h = tt
some_map P Q (Some x) f h = f x h

-- the file was not read
path_allowed : (path : List ℕ) (s : Sort) → IsOfPath path s → Addr2lineAllows path s
path_allowed path (by_reads named count) h = h
path_allowed path (by_writes named count) h = absurd h
path_allowed path (of_file named) h = inl h
path_allowed path (of_package named) h = absurd h
path_allowed path (of_input named) h = absurd h
path_allowed path (of_config named) h = absurd h
path_allowed path of_options h = absurd h
path_allowed path of_link h = absurd h
path_allowed path foreign h = absurd h

whole_stops : (left : Option (List ℕ)) (inline : Bool) (path : List ℕ) (old new : FileState) (e : Fault Cause)
    → AnswersByReading {C = List ℕ} old new (IsOfPath path) (IsWhole path image_limit image_limit) (λ text. text) (Err e)
    → AnswersByReading {C = List ℕ} old new (IsOfPath path) (GivesToKnown left inline path) (λ text. text) (Err e)
whole_stops left inline path old new e h =
    reading_stopped old new (IsOfPath path) (IsOfPath path) (IsWhole path image_limit image_limit) (GivesToKnown left inline path) (λ (t : List ℕ). t) (λ (t : List ℕ). t)
    (λ s k. k) (always old.contents (λ files refusal is. some_always left (λ input. stops refusal is))) e h

pub not_read : (old new : FileState) (from : SourceState) (sink : SinkState) (inline : Bool) (path : List ℕ) (e : Fault Cause)
    → AnswersByReading {C = List ℕ} old new (IsOfPath path) (IsWhole path image_limit image_limit) (λ text. text) (Err e)
    → Addr2lineAnswer {C = Unit {0}} old new from from sink sink inline path (Err e)
not_read old new from sink inline path e h = go e h
  where
    prints : (e : Fault Cause) → AnswersByReading {C = List ℕ} old new (IsOfPath path) (IsWhole path image_limit image_limit) (λ text. text) (Err e)
        → AnswersByPrinting {C = Unit {0}} old new sink sink (Addr2lineAllows path) (GivesToKnown from.left inline path) (λ text. text) (Err e)
    prints e h =
        printing_stopped (Addr2lineAllows path) (GivesToKnown from.left inline path) (λ (t : List ℕ). t) old new sink sink (Unit {0}) (IsOfPath path) (λ (t : List ℕ). t)
        (path_allowed path) (λ named count a. a) refl e (whole_stops from.left inline path old new e h)

    go : (e : Fault Cause) → AnswersByReading {C = List ℕ} old new (IsOfPath path) (IsWhole path image_limit image_limit) (λ text. text) (Err e)
        → Addr2lineAnswer {C = Unit {0}} old new from from sink sink inline path (Err e)
    go fault.OutOfMemory h = record { faults = refl; prints = prints fault.OutOfMemory h }
    go (fault.Bad refusal) h = inr (record { faults = refl; prints = prints (fault.Bad refusal) h })

-- the file was read
module _ (old new : FileState) (from to : SourceState) (inline : Bool) (path file : List ℕ)
    (h : AnswersByReading {C = List ℕ} old new (IsOfPath path) (IsWhole path image_limit image_limit) (λ t. t) (Ok file)) where
  -- and standard input was not
  pub no_input : (sink : SinkState) (e : Fault Cause) → ReadsInput from to (Err e) → Addr2lineAnswer {C = Unit {0}} old new from to sink sink inline path (Err e)
  no_input sink fault.OutOfMemory k = record { faults = k; prints = (h.0, refl) }
  no_input sink (fault.Bad refusal) (inl k) = inl (record {
    fails = k;
    files = h.0;
    silent = refl;
    file = always_known _ _ old.contents (λ files read. (file, read)) h.1;
  })
  no_input sink (fault.Bad refusal) (inr k) =
      let Q : Cause → Type 0 = λ r. AnswersByPrinting {C = Unit {0}} old new sink sink (Addr2lineAllows path) (GivesToKnown from.left inline path) (λ text. text) (Err (fault.Bad r)) in
      let gives : IfKnown old.contents (λ files. GivesToKnown from.left inline path files (Err (cause.FileTooLong stdin input_limit))) =
      always_known _ _ old.contents (λ files read. some_map _ _ from.left (λ input long.
      goes_on file (Err (cause.FileTooLong stdin input_limit)) read (stops (cause.FileTooLong stdin input_limit)
      (let P : Cause → Type 0 = λ r. IsWholeInput input (Err r) in subst P k.0 long))) k.1.gives) h.1 in
      inr (record { faults = k.1.faults; prints = subst Q (sym k.0) (inr refl, (refl, (h.0, gives))) })

  -- and standard input too
  module _ (before after : SinkState) (text : List ℕ) (k : ReadsInput from to (Ok text)) where
    then_gives : (answer : Result (List ℕ) Cause) → IsAnswersOf inline path file text answer → IfKnown old.contents (λ files. GivesToKnown from.left inline path files answer)
    then_gives answer is =
        always_known _ _ old.contents (λ files read. some_map _ _ from.left (λ input whole. goes_on file answer read (goes_on text answer whole is)) k.0.gives) h.1

    abbrev Answer : Result (Unit {0}) (Fault Cause) → Type 0
    Answer r = Addr2lineAnswer old new from to before after inline path r

    abbrev Prints : Cause → Type 0
    Prints r = AnswersByPrinting {C = Unit {0}} old new before after (Addr2lineAllows path) (GivesToKnown from.left inline path) (λ text. text) (Err (fault.Bad r))

    answered : (r : Result (Unit {0}) (Fault Cause)) → AnswersAddresses before after inline path file text r → Answer r
    answered (Ok c) a = (
      record {
        faults = k.0.faults;
        prints = printing_done (Addr2lineAllows path) (GivesToKnown from.left inline path) (λ (t : List ℕ). t) old new before after a.1.0 c h.0
            (then_gives (Ok a.1.0) (a.0, a.1.1)) a.1.2;
      },
      k.1,
    )
    answered (Err fault.OutOfMemory) a = record { faults = k.0.faults; prints = (h.0, a) }
    answered (Err (fault.Bad refusal)) (inl (elf, inl a)) = inr (record {
      faults = k.0.faults;
      prints = subst Prints (sym a.2.0)
          (printing_failed (Addr2lineAllows path) (GivesToKnown from.left inline path) (λ (t : List ℕ). t) old new before after (Unit {0}) a.0 stdout (λ count. refl) h.0
          (then_gives (Ok a.0) (elf, a.1)) a.2.1);
    })
    answered (Err (fault.Bad refusal)) (inl (elf, inr a)) =
        let no = a.0 in
        let gives = then_gives (Err (cause.ElfBad path no.rule no.offset)) (inr (elf, record { rule = no.rule; offset = no.offset; broken = no.broken; refusal_is = refl })) in
        inr (record { faults = k.0.faults; prints = subst Prints (sym no.refusal_is) (refl, (a.1, (h.0, gives))) })
    answered (Err (fault.Bad refusal)) (inr a) =
        let no = a.0 in
        let gives = then_gives (Err (cause.ElfBad path no.rule no.offset)) (inl (record { rule = no.rule; offset = no.offset; broken = no.broken; refusal_is = refl })) in
        inr (record { faults = k.0.faults; prints = subst Prints (sym no.refusal_is) (refl, (a.1, (h.0, gives))) })

pub answered_of : (old new : FileState) (from to : SourceState) (before after : SinkState) (inline : Bool) (path file text bytes input : List ℕ)
    → bytes ≡ file → input ≡ text
    → AnswersByReading {C = List ℕ} old new (IsOfPath path) (IsWhole path image_limit image_limit) (λ t. t) (Ok file)
    → ReadsInput from to (Ok text)
    → (r : Result (Unit {0}) (Fault Cause)) → AnswersAddresses before after inline path bytes input r → Addr2lineAnswer old new from to before after inline path r
answered_of old new from to before after inline path file text bytes input is same h k r a =
    let P : List ℕ → Type 0 = λ b. AnswersAddresses before after inline path b input r in
    let Q : List ℕ → Type 0 = λ i. AnswersAddresses before after inline path file i r in
    answered old new from to inline path file h before after text k r (subst Q same (subst P is a))

-- The answer that must come.

must_more : {B C : Type 0} (R Q W : Type 0) (given : Result B Cause) (r : Result C (Fault Cause)) → MustAnswer R W given r → MustAnswer (R ⊎ Q) W given r
must_more R Q W (Ok b) r h = λ reads writes. h (λ k. reads (inl k)) writes
must_more R Q W (Err refusal) r h = λ reads. h (λ k. reads (inl k))

must_unread : {B C : Type 0} (R Q W : Type 0) (given : Result B Cause) (r : Result C (Fault Cause)) → Q → MustAnswer (R ⊎ Q) W given r
must_unread R Q W (Ok b) r q = λ reads writes. absurd (reads (inr q))
must_unread R Q W (Err refusal) r q = λ reads. absurd (reads (inr q))

module _ (old new : FileState) (before after : SinkState) (inline : Bool) (path : List ℕ) (Q : Type 0) (r : Result (Unit {0}) (Fault Cause)) where
  abbrev Must : Option (List ℕ) → Type 0
  Must left = IfKnown old.contents (λ files. IfSome left (λ input. (given : Result (List ℕ) Cause) → GivesAnswers inline path input files given
      → MustAnswer (Rose old.reads new.reads ⊎ Q) (Rose before.faults after.faults) given r))

  must_known : (left : Option (List ℕ))
      → AnswersByPrinting old new before after (Addr2lineAllows path) (GivesToKnown left inline path) (λ text. text) r → Must left
  must_known None h = always old.contents (λ files. tt)
  must_known (Some input) h =
      always_known _ _ old.contents (λ files k given gives. must_more _ Q _ given r (k given gives))
      (printing_must (GivesAnswers inline path input) (one_answering inline path input) old new before after (Addr2lineAllows path) (λ (t : List ℕ). t) r h)

  must_left : (left : Option (List ℕ)) → Q → Must left
  must_left left q = always old.contents (λ files. some_always left (λ input given gives. must_unread _ Q _ given r q))

pub complete : (old new : FileState) (from to : SourceState) (before after : SinkState) (inline : Bool) (path : List ℕ) (r : Result (Unit {0}) (Fault Cause))
    → Addr2lineAnswer old new from to before after inline path r → Addr2lineUnlessIoFails old new from to before after inline path r
complete old new from to before after inline path (Ok c) h = must_known old new before after inline path (Rose from.faults to.faults) (Ok c) from.left h.0.prints
complete old new from to before after inline path (Err fault.OutOfMemory) h =
    must_known old new before after inline path (Rose from.faults to.faults) (Err fault.OutOfMemory) from.left h.prints
complete old new from to before after inline path (Err (fault.Bad refusal)) (inl h) =
    must_left old new before after inline path (Rose from.faults to.faults) (Err (fault.Bad refusal)) from.left h.fails.rose
complete old new from to before after inline path (Err (fault.Bad refusal)) (inr h) =
    must_known old new before after inline path (Rose from.faults to.faults) (Err (fault.Bad refusal)) from.left h.prints
