-- Chains of inlined calls: from a node to the node of the call that it stands in.
use Rattle.std.specs.Prelude.{ℕ, zero, suc, ◌+◌, List, Bool, true, false, ◌||◌, Option, None, Some, cond, nat_lt, ℤ, pos, negsuc}
use Rattle.glk_pcval.specs.Table.{value_of}
use Rattle.glk_obj.specs.FuncInfos.{node_count, node_at}

-- the node of a pc table's value: one of so many
abbrev pub node_of : ℕ → Option ℤ → Option ℕ
node_of count None = None
node_of count (Some (negsuc below)) = None
node_of count (Some (pos k)) = cond (nat_lt k count) (Some k) None

-- the node that pcinline has where node k was called
unfoldable pub caller : List ℕ → List ℕ → ℕ → Option ℕ
caller info pcinline k = node_of (node_count info) (value_of pcinline (node_at info k).parent_pc)

-- the node after n steps from a node to its caller
unfoldable pub after_calls : (ℕ → Option ℕ) → ℕ → Option ℕ → Option ℕ
after_calls next zero node = node
after_calls next (suc n) None = None
after_calls next (suc n) (Some k) = after_calls next n (next k)

-- the most nodes of a chain: with the function itself a reader shows 65,536 frames
abbrev pub most_nodes : ℕ
most_nodes = 65535

abbrev pub is_node : Option ℕ → Bool
is_node None = false
is_node (Some k) = true

-- the chain from node k has more nodes
unfoldable pub is_long : (ℕ → Option ℕ) → ℕ → Bool
is_long next k = is_node (after_calls next most_nodes (Some k))

-- one of the n numbers from k on passes the test
abbrev pub any_from : (ℕ → Bool) → ℕ → ℕ → Bool
any_from test k zero = false
any_from test k (suc n) = test k || any_from test (k + 1) n

-- a number below n does
abbrev pub any_below : (ℕ → Bool) → ℕ → Bool
any_below test n = any_from test 0 n
