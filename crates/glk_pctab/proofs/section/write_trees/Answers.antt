use Rattle.glk_pctab.specs.Section.{names}
use Rattle.glk_pctab.specs.Views.{view}
use Rattle.glk_pctab.proofs.Assembly.{pool_mark, pool_short, trees_are}
use Rattle.glk_pctab.proofs.section.write_trees.Goals as goal

pub push_trees-requires : goal.push_trees-requires
push_trees-requires c = record {
  mark = pool_mark c.args.name_pool.now _ (names (view c.args.t.now)) c.requires.names;
  short = pool_short c.args.name_pool.now _ (names (view c.args.t.now)) _ c.requires.names c.requires.short;
}

pub returns : goal.returns
returns c = trees_are c.args.t.now c.args.name_pool.now c.new-out.result.items c.push_trees.new.out.items c.requires.names c.new-out.ensures.items c.in_ok-push_trees.ensures
