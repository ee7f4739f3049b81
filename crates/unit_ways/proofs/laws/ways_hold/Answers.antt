use Rattle.unit_ways.proofs.Ascending.{ways_of_ascend, ways_to_ascend}
use Rattle.unit_ways.proofs.Between.{edge_in, from_way_to, is_way_of, post_in, way_jumped, way_of_post, way_on, way_to}
use Rattle.unit_ways.proofs.laws.ways_hold.Goals as goal

pub returns : goal.returns
returns g c = record {
  edge = edge_in;
  post = post_in;
  way = way_of_post;
  to = way_to;
  member = from_way_to;
  on = way_on;
  jumped = way_jumped;
  either = is_way_of;
  set_ascends = ways_to_ascend;
  jump_ascends = ways_of_ascend;
}
