-- Names of segments, computed.
use Rattle.std.specs.Prelude.{◌≡◌, [], Some, None, codes, refl}
use Rattle.nn_segment.specs.Name.{digits, segment_file_name, number_spelled, txids_of}

four_digits : (digits 4 57 ≡ codes "0057") × (number_spelled (codes "0057") ≡ 57)
unfolding digits
four_digits = (refl, refl)

name_of_one_to_four : segment_file_name 1 4 ≡ codes "edits_0000000000000000001-0000000000000000004"
unfolding segment_file_name digits
name_of_one_to_four = refl

-- the greatest txid has all 19 digits
name_of_the_greatest : segment_file_name 9223372036854775807 9223372036854775807 ≡ codes "edits_9223372036854775807-9223372036854775807"
unfolding segment_file_name digits
name_of_the_greatest = refl

read_back : txids_of (codes "edits_0000000000000000001-0000000000000000004") ≡ Some (1, 4)
unfolding txids_of segment_file_name digits
read_back = refl

-- from 0, the wrong way round, above the greatest txid, with a digit too few, with a sign, with another head
no_names : (txids_of (codes "edits_0000000000000000000-0000000000000000004") ≡ None)
    × (txids_of (codes "edits_0000000000000000005-0000000000000000004") ≡ None)
    × (txids_of (codes "edits_0000000000000000001-9223372036854775808") ≡ None)
    × (txids_of (codes "edits_0000000000000000001-000000000000000004") ≡ None)
    × (txids_of (codes "edits_+000000000000000001-0000000000000000004") ≡ None)
    × (txids_of (codes "Edits_0000000000000000001-0000000000000000004") ≡ None)
    × (txids_of [] ≡ None)
unfolding txids_of segment_file_name digits
no_names = (refl, refl, refl, refl, refl, refl, refl)
