-- The tree of stamps: what writing a number leaves, and where a low one is found.
use Rattle.std.proofs.Common.{◌≡◌, ◌≢◌, ℕ, zero, suc, ◌+◌, ◌-◌, ◌<◌, ◌≤◌, ◌^◌, ◌/◌, Bool, true, false, List, length, drop, set, get_or, replicate, refl, sym, ap, ◌∙◌, ◌⊎◌, inl, inr, arith, min, eqb-true}
use Rattle.std.specs.Prelude.{◌==◌}
use Rattle.std.proofs.Math.Pow.{pow_mono}
use Rattle.std.proofs.lemmas.Nat.{pow_pos}
use Rattle.std.proofs.lemmas.Grind.{pow_more}
use Rattle.std.proofs.lemmas.Bool.{cases_order, eqb-false}
use Rattle.std.proofs.lemmas.List.{get_or-set_same, get_or-set_other, get_or-drop, get_or-replicate, get_or_past, get_or_default, length-set, length-drop, length-replicate, drop-set-lt}
use Rattle.nn_postponed.specs.declared.stamps.TheConstants.{NO_STAMP}
use Rattle.nn_postponed.specs.Stamps.{stamp_there, HaveNone, IsFirstUpTo, AreLeast}

-- the number of a node
abbrev at : List ℕ → ℕ → ℕ
at nodes node = get_or nodes node 0

-- the node has the lower number of the two below it
abbrev Fits : List ℕ → ℕ → Type 0
Fits nodes node = at nodes node ≡ min (at nodes (node + node)) (at nodes (node + node + 1))

same_fits : (nodes new : List ℕ) (j : ℕ) → at new j ≡ at nodes j → at new (j + j) ≡ at nodes (j + j) → at new (j + j + 1) ≡ at nodes (j + j + 1) → Fits nodes j → Fits new j
same_fits nodes new j here left right fits = omega (arith, here, left, right, fits)

-- ---- A number is put.

-- all nodes fit but that above this one
pub record Mended (places node : ℕ) (nodes : List ℕ) : Type 0 where
  pub many : length nodes ≡ places + places
  pub low : node < length nodes
  pub fits : (j : ℕ) → 1 ≤ j → j < places → j + j ≢ node → j + j + 1 ≢ node → Fits nodes j

module _ (places node v : ℕ) (nodes : List ℕ) where
  pub mends : length nodes ≡ places + places → AreLeast places nodes → places ≤ node → node < length nodes → Mended places node (set nodes node v)
  mends many least le lt = record {
    many = length-set nodes node v ∙ many;
    low = omega (arith, lt, length-set nodes node v);
    fits = λ j one below left right.
        let other : (i : ℕ) → i ≢ node → at (set nodes node v) i ≡ at nodes i = λ i apart. get_or-set_other nodes node i v 0 apart in
        same_fits nodes (set nodes node v) j (other j (λ e. omega (arith, e, le, below))) (other (j + j) left) (other (j + j + 1) right) (least j one below);
  }

-- the node above
module _ (places node up v : ℕ) (nodes : List ℕ) (m : Mended places node nodes) (one : 1 < node) (is : up ≡ node / 2) where
  pub mended_up : v ≡ min (at nodes (up + up)) (at nodes (up + up + 1)) → Mended places up (set nodes up v)
  mended_up new =
      let in_range : up < length nodes = omega (arith, is, m.low) in record {
        many = length-set nodes up v ∙ m.many;
        low = omega (arith, in_range, length-set nodes up v);
        fits = λ j first below left right. here j first below left right in_range (j == up) refl;
      }
    where
      other : (i : ℕ) → i ≢ up → at (set nodes up v) i ≡ at nodes i
      other i apart = get_or-set_other nodes up i v 0 apart

      here : (j : ℕ) → 1 ≤ j → j < places → j + j ≢ up → j + j + 1 ≢ up → up < length nodes → (t : Bool) → (j == up) ≡ t → Fits (set nodes up v) j
      here j first below left right in_range true same =
          let e : j ≡ up = eqb-true j up same in
          let put : at (set nodes up v) j ≡ v = ap (at (set nodes up v)) e ∙ get_or-set_same nodes up v 0 in_range in
          put ∙ new ∙ (let l = other (j + j) left in let r = other (j + j + 1) right in
          omega (arith, l, r, ap (λ i. at nodes (i + i)) e, ap (λ i. at nodes (i + i + 1)) e))
      here j first below left right in_range false apart =
          let ne : j ≢ up = eqb-false j up apart in
          same_fits nodes (set nodes up v) j (other j ne) (other (j + j) left) (other (j + j + 1) right)
          (m.fits j first below (λ e. ne (omega (arith, e, is))) (λ e. ne (omega (arith, e, is))))

  pub mended_all : at nodes up ≡ min (at nodes (up + up)) (at nodes (up + up + 1)) → AreLeast places nodes
  mended_all same j first below = here (j == up) refl
    where
      here : (t : Bool) → (j == up) ≡ t → Fits nodes j
      here true is_up =
          let e : j ≡ up = eqb-true j up is_up in
          ap (at nodes) e ∙ same ∙ ap (λ i. min (at nodes (i + i)) (at nodes (i + i + 1))) (sym e)
      here false apart =
          let ne : j ≢ up = eqb-false j up apart in m.fits j first below (λ e. ne (omega (arith, e, is))) (λ e. ne (omega (arith, e, is)))

pub mended_end : (places node : ℕ) (nodes : List ℕ) → Mended places node nodes → node ≤ 1 → AreLeast places nodes
mended_end places node nodes m end j first below = m.fits j first below (λ e. omega (arith, e, end, first)) (λ e. omega (arith, e, end, first))

-- ---- The places are the second half.

module _ (places place v : ℕ) (nodes : List ℕ) where
  pub place_put : length nodes ≡ places + places → place < places → stamp_there (drop places (set nodes (places + place) v)) place ≡ v
  place_put many lt = get_or-drop places (set nodes (places + place) v) place NO_STAMP ∙ get_or-set_same nodes (places + place) v NO_STAMP (omega (arith, many, lt))

  pub place_kept : (q : ℕ) → q ≢ place → stamp_there (drop places (set nodes (places + place) v)) q ≡ stamp_there (drop places nodes) q
  place_kept q apart = get_or-drop places (set nodes (places + place) v) q NO_STAMP
      ∙ get_or-set_other nodes (places + place) (places + q) v NO_STAMP (λ e. apart (omega (arith, e)))
      ∙ sym (get_or-drop places nodes q NO_STAMP)

pub inner_put : (places node v : ℕ) (nodes : List ℕ) → node < places → drop places (set nodes node v) ≡ drop places nodes
inner_put places node v nodes lt = drop-set-lt places nodes node v lt

pub half_long : (places : ℕ) (nodes : List ℕ) → length nodes ≡ places + places → length (drop places nodes) ≡ places
half_long places nodes many = omega (arith, length-drop places nodes, many)

-- ---- No stamps.

pub none_there : (places n : ℕ) → HaveNone (drop places (replicate n NO_STAMP))
none_there places n place = get_or-drop places (replicate n NO_STAMP) place NO_STAMP ∙ all (places + place)
  where
    all : (i : ℕ) → get_or (replicate n NO_STAMP) i NO_STAMP ≡ NO_STAMP
    all i = elim (cases_order i n) [
      | inl same ↦ get_or_past (replicate n NO_STAMP) i NO_STAMP (omega (arith, same, length-replicate n NO_STAMP))
      | inr (inl below) ↦ get_or-replicate n i NO_STAMP NO_STAMP below
      | inr (inr above) ↦ get_or_past (replicate n NO_STAMP) i NO_STAMP (omega (arith, above, length-replicate n NO_STAMP))
    ]

pub none_least : (places : ℕ) → AreLeast places (replicate (places + places) NO_STAMP)
none_least places node first below =
    let all : (i : ℕ) → i < places + places → at (replicate (places + places) NO_STAMP) i ≡ NO_STAMP = λ i lt. get_or-replicate (places + places) i NO_STAMP 0 lt in
    let here = all node (omega (arith, below)) in
    let left = all (node + node) (omega (arith, below)) in
    let right = all (node + node + 1) (omega (arith, below)) in
    omega (arith, here, left, right)

-- ---- A low stamp is found.

-- each number is twice another one, or one more
halved : (n : ℕ) → (k : ℕ) × ((n ≡ k + k) ⊎ (n ≡ k + k + 1))
halved zero = (zero, inl (omega arith))
halved (suc n) = (let h = halved n in elim h.1 [
  | inl left ↦ (h.0, inr (omega (arith, left)))
  | inr right ↦ (suc h.0, inl (omega (arith, right)))
])

-- on its level the node is the first one with a number up to the limit
pub record Descends (limit : ℕ) (nodes : List ℕ) (level node : ℕ) : Type 0 where
  pub low : 2 ^ level ≤ node
  pub high : node < 2 ^ level + 2 ^ level
  pub here : at nodes node ≤ limit
  pub before : (j : ℕ) → 2 ^ level ≤ j → j < node → limit < at nodes j

pub descends_first : (limit : ℕ) (nodes : List ℕ) → at nodes 1 ≤ limit → Descends limit nodes 0 1
descends_first limit nodes here = record { low = omega arith; high = omega arith; here = here; before = λ j low lt. absurd (omega (arith, low, lt)) }

-- one level further down
module _ (limit levels level node : ℕ) (nodes : List ℕ) (least : AreLeast (2 ^ levels) nodes) (deep : level < levels) (d : Descends limit nodes level node) where
  power : 2 ^ (level + 1) ≡ 2 ^ level + 2 ^ level
  power = omega (arith, pow_more 2 level)

  pub above : node < 2 ^ levels
  above = (let le : 2 ^ (level + 1) ≤ 2 ^ levels = pow_mono (omega (arith, deep)) in let h = d.high in omega (arith, le, h, power))

  one : 1 ≤ node
  one = (let p = pow_pos level in let l = d.low in omega (arith, p, l))

  -- the numbers below one that is too high are too high
  below_high : (j k : ℕ) → 2 ^ level ≤ k → k < node → (j ≡ k + k) ⊎ (j ≡ k + k + 1) → limit < at nodes j
  below_high j k low lt is =
      let fits = least k (let p = pow_pos level in omega (arith, p, low)) (omega (arith, lt, above)) in
      let high = d.before k low lt in elim is [
        | inl left ↦ (let here = ap (at nodes) left in omega (arith, here, fits, high))
        | inr right ↦ (let here = ap (at nodes) right in omega (arith, here, fits, high))
      ]

  high_before : (j : ℕ) → 2 ^ (level + 1) ≤ j → j < node + node → limit < at nodes j
  high_before j low lt =
      let h = halved j in elim h.1 [
        | inl left ↦ below_high j h.0 (omega (arith, low, left, power)) (omega (arith, lt, left)) (inl left)
        | inr right ↦ below_high j h.0 (omega (arith, low, right, power)) (omega (arith, lt, right)) (inr right)
      ]

  pub descends_left : at nodes (node + node) ≤ limit → Descends limit nodes (level + 1) (node + node)
  descends_left here = (let l = d.low in let h = d.high in record {
    low = omega (arith, l, power);
    high = omega (arith, h, power);
    here = here;
    before = high_before;
  })

  pub descends_right : limit < at nodes (node + node) → Descends limit nodes (level + 1) (node + node + 1)
  descends_right left =
      let fits = least node one above in
      let l = d.low in let h = d.high in let small = d.here in record {
        low = omega (arith, l, power);
        high = omega (arith, h, power);
        here = omega (arith, fits, small, left);
        before = λ j low lt. elim (cases_order j (node + node)) [
          | inl same ↦ (let e = ap (at nodes) same in omega (arith, e, left))
          | inr (inl under) ↦ high_before j low under
          | inr (inr over) ↦ absurd (omega (arith, lt, over))
        ];
      }

-- the place at the end
pub found_there : (limit levels node : ℕ) (nodes : List ℕ) → limit < NO_STAMP → length nodes ≡ 2 ^ levels + 2 ^ levels → Descends limit nodes levels node → IsFirstUpTo limit (drop (2 ^ levels) nodes) (node - 2 ^ levels)
found_there limit levels node nodes few long d =
    let l = d.low in let h = d.high in let small = d.here in
    let half : length (drop (2 ^ levels) nodes) ≡ 2 ^ levels = half_long (2 ^ levels) nodes long in
    let same : 2 ^ levels + (node - 2 ^ levels) ≡ node = omega (arith, l) in record {
      in_range = omega (arith, l, h, half);
      low = (let e = get_or-drop (2 ^ levels) nodes (node - 2 ^ levels) NO_STAMP ∙ ap (λ k. get_or nodes k NO_STAMP) same ∙ get_or_default nodes node NO_STAMP 0 (omega (arith, h, long)) in omega (arith, e, small));
      before = λ q lt.
          let e = get_or-drop (2 ^ levels) nodes q NO_STAMP ∙ get_or_default nodes (2 ^ levels + q) NO_STAMP 0 (omega (arith, lt, l, h, long)) in
          let high = d.before (2 ^ levels + q) (omega arith) (omega (arith, lt, l)) in omega (arith, e, high);
    }

-- where the root is too high, all are
module _ (limit levels : ℕ) (nodes : List ℕ) (least : AreLeast (2 ^ levels) nodes) (root : limit < at nodes 1) where
  level_high : (level : ℕ) → level ≤ levels → (j : ℕ) → 2 ^ level ≤ j → j < 2 ^ level + 2 ^ level → limit < at nodes j
  level_high zero deep j low high = (let e : j ≡ 1 = omega (arith, low, high) in let here = ap (at nodes) e in omega (arith, here, root))
  level_high (suc level) deep j low high =
      let power : 2 ^ suc level ≡ 2 ^ level + 2 ^ level = omega (arith, pow_more 2 level) in
      let le : 2 ^ (level + 1) ≤ 2 ^ levels = pow_mono (omega (arith, deep)) in
      let p = pow_pos level in
      let h = halved j in elim h.1 [
        | inl left ↦ under level j h.0 (inl left) (omega (arith, left, low, p, power)) (omega (arith, left, high, power, le, pow_more 2 level)) (level_high level (omega (arith, deep)) h.0 (omega (arith, left, low, power)) (omega (arith, left, high, power)))
        | inr right ↦ under level j h.0 (inr right) (omega (arith, right, low, p, power)) (omega (arith, right, high, power, le, pow_more 2 level)) (level_high level (omega (arith, deep)) h.0 (omega (arith, right, low, power)) (omega (arith, right, high, power)))
      ]
    where
      under : (l i k : ℕ) → (i ≡ k + k) ⊎ (i ≡ k + k + 1) → 1 ≤ k → k < 2 ^ levels → limit < at nodes k → limit < at nodes i
      under l i k is first below high_k = (let fits = least k first below in elim is [
        | inl left ↦ (let here = ap (at nodes) left in omega (arith, here, fits, high_k))
        | inr right ↦ (let here = ap (at nodes) right in omega (arith, here, fits, high_k))
      ])

  pub all_high : limit < NO_STAMP → length nodes ≡ 2 ^ levels + 2 ^ levels → (place : ℕ) → limit < stamp_there (drop (2 ^ levels) nodes) place
  all_high few long place = elim (cases_order (2 ^ levels + place) (length nodes)) [
    | inl same ↦ past (omega (arith, same))
    | inr (inl below) ↦
        let e = get_or-drop (2 ^ levels) nodes place NO_STAMP ∙ get_or_default nodes (2 ^ levels + place) NO_STAMP 0 below in
        let high = level_high levels (omega arith) (2 ^ levels + place) (omega arith) (omega (arith, below, long)) in omega (arith, e, high)
    | inr (inr above) ↦ past (omega (arith, above))
  ]
    where
      past : length nodes ≤ 2 ^ levels + place → limit < stamp_there (drop (2 ^ levels) nodes) place
      past le = (let e = get_or-drop (2 ^ levels) nodes place NO_STAMP ∙ get_or_past nodes (2 ^ levels + place) NO_STAMP le in omega (arith, e, few))

pub below_power : (n : ℕ) → n < 2 ^ n
below_power zero = omega arith
below_power (suc n) = (let r = below_power n in omega (arith, r, pow_more 2 n))

-- ---- What a read number says.

pub read_high : (limit k r : ℕ) (nodes : List ℕ) → k < length nodes → r ≡ get_or nodes k r → limit < r → limit < at nodes k
read_high limit k r nodes lt is high = (let e = get_or_default nodes k r 0 lt in omega (arith, e, is, high))

pub read_low : (limit k r : ℕ) (nodes : List ℕ) → k < length nodes → r ≡ get_or nodes k r → r ≤ limit → at nodes k ≤ limit
read_low limit k r nodes lt is low = (let e = get_or_default nodes k r 0 lt in omega (arith, e, is, low))
