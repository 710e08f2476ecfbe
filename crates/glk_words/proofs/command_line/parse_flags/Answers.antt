use Rattle.std.proofs.Common.{◌≡◌, ◌<◌, ℕ, List, length, arith, sym, ◌∙◌}
use Rattle.glk_words.specs.Words.{texts_of}
use Rattle.glk_words.proofs.Steps.{many}
use Rattle.glk_words.proofs.WordSteps.{value_stops, value_goes_on, plain_ends, end_ends, bad_ends, flag_stops, flag_goes_on, waits_in_vain, none_waits}
use Rattle.glk_words.proofs.command_line.parse_flags.Goals as goal
use Rattle.glk_words.proofs.command_line.parse_flags.Goals.{in-Some+in-Ok, in-None+in-Flag+in-Ok-parse_flag}

pub loop-index-preserved : goal.loop-index-preserved
loop-index-preserved c =
    let texts : List (List ℕ) = texts_of c.args.words.now in
    let inside : c.loop-index.index < length texts = omega (arith, many c.args.words.now) in
    elim c.match-pending.branch [
      | in-Some+in-Ok w ↦ rw (w.settings-is, w.pending-is) (value_goes_on _ _ texts _ _ inside c.word_at-word.ensures _ _ _ _ w.in-Some.is w.in-Ok.ensures.on ∙ c.loop-index.invariant)
      | in-None+in-Flag+in-Ok-parse_flag w ↦ rw (w.settings-is, w.pending-is) (flag_goes_on _ _ texts _ _ inside c.word_at-word.ensures _ _ _ _ _ _ w.in-None.is w.split_flag.ensures w.in-Flag.is w.in-Ok-parse_flag.ensures.on ∙ c.loop-index.invariant)
    ]

pub returns-in-Err-clause-fault : goal.returns-in-Err-clause-fault
returns-in-Err-clause-fault c =
    let texts : List (List ℕ) = texts_of c.args.words.now in
    let inside : c.loop-index.index < length texts = omega (arith, many c.args.words.now) in
    rw (sym c.loop-index.invariant) (value_stops _ _ texts _ _ inside c.word_at-word.ensures _ _ _ c.in-Some.is c.in-Err.ensures.fault)

pub returns-in-Err-parse_flag-clause-fault : goal.returns-in-Err-parse_flag-clause-fault
returns-in-Err-parse_flag-clause-fault c =
    let texts : List (List ℕ) = texts_of c.args.words.now in
    let inside : c.loop-index.index < length texts = omega (arith, many c.args.words.now) in
    rw (sym c.loop-index.invariant) (flag_stops _ _ texts _ _ inside c.word_at-word.ensures _ _ _ _ _ c.in-None.is c.split_flag.ensures c.in-Flag.is c.in-Err-parse_flag.ensures.fault)

pub returns-in-BadSyntax-clause-fault : goal.returns-in-BadSyntax-clause-fault
returns-in-BadSyntax-clause-fault c =
    let texts : List (List ℕ) = texts_of c.args.words.now in
    let inside : c.loop-index.index < length texts = omega (arith, many c.args.words.now) in
    rw c.fault.ensures (sym c.loop-index.invariant ∙ bad_ends _ _ texts _ _ inside c.word_at-word.ensures _ _ c.in-None.is c.split_flag.ensures c.in-BadSyntax.is)

pub returns-in-Plain-clause-asked : goal.returns-in-Plain-clause-asked
returns-in-Plain-clause-asked c =
    let texts : List (List ℕ) = texts_of c.args.words.now in
    let inside : c.loop-index.index < length texts = omega (arith, many c.args.words.now) in
    rw (sym c.loop-index.invariant ∙ plain_ends _ _ texts _ _ inside c.word_at-word.ensures _ _ c.in-None.is c.split_flag.ensures c.in-Plain.is) c.operands.ensures.asked

pub returns-in-Plain-clause-fault : goal.returns-in-Plain-clause-fault
returns-in-Plain-clause-fault c =
    let texts : List (List ℕ) = texts_of c.args.words.now in
    let inside : c.loop-index.index < length texts = omega (arith, many c.args.words.now) in
    rw (sym c.loop-index.invariant ∙ plain_ends _ _ texts _ _ inside c.word_at-word.ensures _ _ c.in-None.is c.split_flag.ensures c.in-Plain.is) c.operands.ensures.fault

pub returns-in-End-clause-asked : goal.returns-in-End-clause-asked
returns-in-End-clause-asked c =
    let texts : List (List ℕ) = texts_of c.args.words.now in
    let inside : c.loop-index.index < length texts = omega (arith, many c.args.words.now) in
    rw (sym c.loop-index.invariant ∙ end_ends _ _ texts _ _ inside c.word_at-word.ensures _ _ c.in-None.is c.split_flag.ensures c.in-End.is) c.operands-in-End.ensures.asked

pub returns-in-End-clause-fault : goal.returns-in-End-clause-fault
returns-in-End-clause-fault c =
    let texts : List (List ℕ) = texts_of c.args.words.now in
    let inside : c.loop-index.index < length texts = omega (arith, many c.args.words.now) in
    rw (sym c.loop-index.invariant ∙ end_ends _ _ texts _ _ inside c.word_at-word.ensures _ _ c.in-None.is c.split_flag.ensures c.in-End.is) c.operands-in-End.ensures.fault

pub returns-in-Some-pending-clause-fault : goal.returns-in-Some-pending-clause-fault
returns-in-Some-pending-clause-fault c =
    let texts : List (List ℕ) = texts_of c.args.words.now in
    let end : c.loop-index.index ≡ length c.args.words.now = omega (arith, c.loop-index.auto.index-end, c.requires) in
    rw c.fault-in-Some-pending.ensures (sym c.loop-index.invariant ∙ waits_in_vain _ _ texts _ _ _ _ (end ∙ sym (many c.args.words.now)) (sym end) c.in-Some-pending.is)

pub returns-clause-asked : goal.returns-clause-asked
returns-clause-asked c =
    let texts : List (List ℕ) = texts_of c.args.words.now in
    let end : c.loop-index.index ≡ length c.args.words.now = omega (arith, c.loop-index.auto.index-end, c.requires) in
    rw (sym c.loop-index.invariant ∙ none_waits _ _ texts _ _ _ (end ∙ sym (many c.args.words.now)) (sym end) c.in-None-pending.is) c.operands-in-None-pending.ensures.asked

pub returns-clause-fault : goal.returns-clause-fault
returns-clause-fault c =
    let texts : List (List ℕ) = texts_of c.args.words.now in
    let end : c.loop-index.index ≡ length c.args.words.now = omega (arith, c.loop-index.auto.index-end, c.requires) in
    rw (sym c.loop-index.invariant ∙ none_waits _ _ texts _ _ _ (end ∙ sym (many c.args.words.now)) (sym end) c.in-None-pending.is) c.operands-in-None-pending.ensures.fault
