-- Every starred row of document 01's sheet holds, by computation.
-- Assumes nothing.
use lib.Dec.{T}
use lib.Count.{ones}
use Rattle.meaning.specs.Refusal.{refuse_if, ◌>>=◌, ◌>>◌}
use Rattle.meaning.specs.Bytes.{number, bytes, fields, read_head, headed}
use Rattle.meaning.specs.Tree.{count, under, nodes, relabel}
use Rattle.meaning.specs.Fraction.{gcd, lowest, wrong_with}
use Rattle.meaning.specs.Register.{targets, except, items_bytes, links_bytes, read_items, read_link, read_links, read_body, read_register_by}
use Rattle.meaning.specs.Register.{encode as image}
use Rattle.meaning.specs.Whole.{any, meets_by}
use Rattle.meaning.specs.Reduce.{dropped, kept_of, reduce, size, scale}
use Rattle.meaning.specs.Degree.{best, degree}
use Rattle.meaning.specs.Requirement.{every}
use Rattle.meaning.specs.Message.{node_bytes, thresholds_bytes, read_children, read_node, no_thresholds, read_threshold, read_thresholds, with_thresholds, read_requirement}
use Rattle.meaning.specs.Message.{encode as message}
use Rattle.meaning.specs.Shown.{shown, yes_by}
use Rattle.meaning.specs.Calls.{read_plain, asked_for, degree_call, margin_call, member_call}
use Rattle.meaning.specs.Sheet.{same_list, same_whole, rows, all_true}

pub sheet : T (all_true rows)
unfolding
    rows all_true same_list same_whole asked_for degree_call margin_call member_call read_plain read_requirement read_register_by read_body read_items read_link read_links
    items_bytes links_bytes read_head number bytes fields headed image message node_bytes thresholds_bytes
    read_node read_children no_thresholds read_threshold read_thresholds with_thresholds shown yes_by degree best lowest gcd wrong_with reduce kept_of dropped size scale
    meets_by any every refuse_if ◌>>=◌ ◌>>◌ targets except count under nodes relabel ones
sheet = tt
