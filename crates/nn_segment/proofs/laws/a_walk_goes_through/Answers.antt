use Rattle.nn_segment.proofs.Walks.{passed_over, next_taken, old_adds_nothing, high_adds_nothing, adds_the_rest, behind_the_rest, end_adds_nothing, fault_adds_nothing}
use Rattle.nn_segment.proofs.laws.a_walk_goes_through.Goals as goal

pub returns : goal.returns
returns c = record {
  passed = passed_over;
  taken = next_taken;
  old = old_adds_nothing;
  high = high_adds_nothing;
  rest = adds_the_rest;
  behind = behind_the_rest;
  end = end_adds_nothing;
  fault = fault_adds_nothing;
}
