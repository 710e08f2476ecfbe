use Rattle.std.proofs.Common.{arith, inl, refl, sym, ap, ◌∙◌}
use Rattle.std.proofs.lemmas.List.{nil_from_length}
use Rattle.glk_pcval.proofs.EncodeLemmas.{written_all, prefix_none, follows_start, prefix_ranges, prefix_whole, empty_ranges}
use Rattle.glk_pcval.specs.Encode.{table_bytes}
use Rattle.glk_pcval.proofs.SoundLemmas.{table_of}
use Rattle.glk_pcval.proofs.encoder.encode.Goals as goal

pub returns-then-count-eq0-clause-read_back : goal.returns-then-count-eq0-clause-read_back
returns-then-count-eq0-clause-read_back c = empty_ranges _ c.args.list.now c.new-out.ensures.items (omega arith)

pub returns-then-count-eq0-clause-table : goal.returns-then-count-eq0-clause-table
returns-then-count-eq0-clause-table c = inl (nil_from_length c.args.list.now (omega arith), c.new-out.ensures.items)

pub loop-i-init : goal.loop-i-init
loop-i-init c = record {
  written = rw c.new-out.ensures.items refl;
  before = rw c.new-out.ensures.items prefix_none;
  begun = λ some. absurd (omega (arith, some));
  follows = follows_start c.args.list.now c.requires;
}

pub returns-clause-read_back : goal.returns-clause-read_back
returns-clause-read_back c = prefix_ranges c.loop-i.out.items _ c.loop-i.from c.args.list.now c.loop-i.i c.loop-i.invariant.before (omega arith) (c.loop-i.invariant.begun (omega arith)) c.in_ok-push.ensures.items

pub returns-then-count-eq0-clause-bytes : goal.returns-then-count-eq0-clause-bytes
returns-then-count-eq0-clause-bytes c = c.new-out.ensures.items ∙ ap table_bytes (sym (nil_from_length c.args.list.now (omega arith)))

pub returns-clause-bytes : goal.returns-clause-bytes
returns-clause-bytes c = written_all c.loop-i.out.items _ c.loop-i.from c.args.list.now c.loop-i.i (omega arith) (omega arith) c.loop-i.invariant.written c.in_ok-push.ensures.items

pub returns-clause-whole : goal.returns-clause-whole
returns-clause-whole c = prefix_whole c.loop-i.out.items _ c.loop-i.from _ c.loop-i.invariant.before (c.loop-i.invariant.begun (omega arith)) c.in_ok-push.ensures.items

pub returns-clause-table : goal.returns-clause-table
returns-clause-table c =
    table_of _ c.args.list.now
    (prefix_ranges c.loop-i.out.items _ c.loop-i.from c.args.list.now c.loop-i.i c.loop-i.invariant.before (omega arith) (c.loop-i.invariant.begun (omega arith)) c.in_ok-push.ensures.items)
    (prefix_whole c.loop-i.out.items _ c.loop-i.from _ c.loop-i.invariant.before (c.loop-i.invariant.begun (omega arith)) c.in_ok-push.ensures.items)
