-- Hexadecimal digits: the values that occur, and their ranks by one product.
use mathlib.Core.Path.{◌≡◌, refl, sym, ap, ap₂, ◌∙◌}
use mathlib.Core.Bool.{Bool, true, false, ◌||◌}
use mathlib.Core.List.{List}
use Prim.Native.Nat.{ℕ, zero, suc, ◌+◌, ◌*◌, ◌-◌, ◌/◌, ◌%◌, ◌^◌, ◌≤◌, ◌<◌}
use native.Mathlib.Nat.{add-mul-mod_self_left, mod-eq_of_lt, pow-succ'}
use native.Mathlib.Numerals.{add-one}
use native.Mathlib.Omega.{arith}
use lib.Bits.{bit_and, bit_or, and_high, or_block, or_zero_r}
use lib.Dec.{eqb, eqb-suc-suc, eqb-suc-zero, eqb-zero-suc}
use lib.ListN.{length, get_or, take}
use lib.Pow.{pow-add, shr-shr}
use Rattle.automaton.specs.Tests.{one_more_if, occurs}
use Rattle.automaton.specs.Ranks.{rank}
use Rattle.automaton.proofs.Tests.{one_more_if_lem, one_at_most}
use Rattle.automaton.proofs.Ranks.{rank_zero, rank_grows}
use Rattle.nodes.specs.Numbers.{bits_of}
use Rattle.region.specs.Arrays.{hexadecimal, value_digits, rank_digits}
use Rattle.region.proofs.ClockLaws.{occurs_next}

-- ---- digits

same_digits : (d e : ℕ → ℕ) (n : ℕ) → ((v : ℕ) → d v ≡ e v) → hexadecimal d n ≡ hexadecimal e n
unfolding hexadecimal
same_digits d e zero h = refl
same_digits d e (suc n) h = ap₂ (λ (x y : ℕ). x + 16 * y) (h 0) (same_digits (λ v. d (suc v)) (λ v. e (suc v)) n (λ v. h (suc v)))

-- of digits below 16, those above the lowest
rest_below : (d : ℕ → ℕ) (n : ℕ) → ((v : ℕ) → v < suc n → d v < 16) → (v : ℕ) → v < n → d (suc v) < 16
rest_below d n h v l = h (suc v) (omega arith)

digits_below : (d : ℕ → ℕ) (n : ℕ) → ((v : ℕ) → v < n → d v < 16) → hexadecimal d n < 16 ^ n
unfolding hexadecimal
digits_below d zero h = omega arith
digits_below d (suc n) h = omega (arith, h 0 (omega arith), digits_below (λ v. d (suc v)) n (rest_below d n h), pow-succ' 16 n)

digit_at : (d : ℕ → ℕ) (n : ℕ) → ((v : ℕ) → v < n → d v < 16) → (t : ℕ) → t < n → bits_of (hexadecimal d n) 4 (4 * t) ≡ d t
unfolding hexadecimal
digit_at d zero h t l = absurd (omega arith)
digit_at d (suc n) h zero l = omega (arith, h 0 l)
digit_at d (suc n) h (suc t) l =
    let x = hexadecimal (λ v. d (suc v)) n in
    let e : 4 * suc t ≡ 4 + 4 * t = omega arith in
    let q : (d 0 + 16 * x) / 16 ≡ x = omega (arith, h 0 (omega arith)) in
    ap (λ (k : ℕ). bits_of (d 0 + 16 * x) 4 k) e ∙ ap (λ (y : ℕ). y % 16) (sym (shr-shr (d 0 + 16 * x) 4 (4 * t)))
    ∙ ap (λ (y : ℕ). y / 2 ^ (4 * t) % 16) q ∙ digit_at (λ v. d (suc v)) n (rest_below d n h) t (omega arith)

-- ---- the values that occur

one_low : (b : Bool) → one_more_if b 0 < 16
one_low b = omega (arith, one_at_most b)

or_one : (b : Bool) → bit_or (one_more_if b 0) 1 ≡ 1
or_one true = refl
or_one false = refl

-- one value more: its digit is 1, and the others stay
with_value : (p : ℕ → Bool) (v n : ℕ) → v < n
    → bit_or (hexadecimal (λ w. one_more_if (p w) 0) n) (2 ^ (4 * v)) ≡ hexadecimal (λ w. one_more_if (eqb w v || p w) 0) n
unfolding hexadecimal
with_value p v zero h = absurd (omega arith)
with_value p zero (suc n) h =
    let d = one_more_if (p 0) 0 in
    let x = hexadecimal (λ w. one_more_if (p (suc w)) 0) n in
    let e : d + 16 * x ≡ x * 16 + d = omega arith in
    ap (λ (y : ℕ). bit_or y 1) e ∙ or_block 4 x 0 d 1 (one_low (p 0)) (omega arith)
    ∙ ap₂ (λ (y z : ℕ). y * 16 + z) (or_zero_r x) (or_one (p 0)) ∙ (let s : x * 16 + 1 ≡ 1 + 16 * x = omega arith in s)
    ∙ ap (λ (y : ℕ). 1 + 16 * y)
    (same_digits (λ w. one_more_if (p (suc w)) 0) (λ w. one_more_if (eqb (suc w) 0 || p (suc w)) 0) n
    (λ w. ap (λ (b : Bool). one_more_if (b || p (suc w)) 0) (sym (eqb-suc-zero w))))
with_value p (suc v) (suc n) h =
    let d = one_more_if (p 0) 0 in
    let x = hexadecimal (λ w. one_more_if (p (suc w)) 0) n in
    let e : d + 16 * x ≡ x * 16 + d = omega arith in
    let s : 4 * suc v ≡ 4 * v + 4 = omega arith in
    let t : 2 ^ (4 * suc v) ≡ 2 ^ (4 * v) * 16 + 0 = ap (λ (k : ℕ). 2 ^ k) s ∙ pow-add 2 (4 * v) 4 ∙ omega arith in
    ap₂ bit_or e t ∙ or_block 4 x (2 ^ (4 * v)) d 0 (one_low (p 0)) (omega arith)
    ∙ ap₂ (λ (y z : ℕ). y * 16 + z)
    (with_value (λ w. p (suc w)) v n (omega arith)
    ∙ same_digits (λ w. one_more_if (eqb w v || p (suc w)) 0) (λ w. one_more_if (eqb (suc w) (suc v) || p (suc w)) 0) n
    (λ w. ap (λ (b : Bool). one_more_if (b || p (suc w)) 0) (sym (eqb-suc-suc w v))))
    (or_zero_r d ∙ ap (λ (b : Bool). one_more_if (b || p 0) 0) (sym (eqb-zero-suc v)))
    ∙ omega arith

pub values_none : (xs : List ℕ) → 0 ≡ value_digits (take 0 xs)
unfolding value_digits hexadecimal
values_none xs = refl

pub values_more : (xs : List ℕ) (j : ℕ) → j < length xs → get_or xs j 0 < 8
    → bit_or (value_digits (take j xs)) (2 ^ (4 * get_or xs j 0)) ≡ value_digits (take (j + 1) xs)
unfolding value_digits
values_more xs j h k =
    with_value (λ v. occurs v (take j xs)) (get_or xs j 0) 8 k
    ∙ same_digits (λ v. one_more_if (eqb v (get_or xs j 0) || occurs v (take j xs)) 0) (λ v. one_more_if (occurs v (take (j + 1) xs)) 0) 8
    (λ v. ap (λ (b : Bool). one_more_if b 0) (occurs_next v xs j h ∙ sym (ap (λ (n : ℕ). occurs v (take n xs)) (add-one j))))

-- ---- their ranks

-- eight digits are those above the lowest, and the lowest
lowest_apart : (x : ℕ) → x < 0x1_0000_0000 → x / 16 % 0x1000_0000 * 16 + x % 16 ≡ x
lowest_apart x h = let q : x / 16 % 0x1000_0000 ≡ x / 16 = mod-eq_of_lt (omega arith) in omega (arith, q)

-- A factor with ones in its lowest seven digits. What it has above them goes beyond the eight digits of the product: its other factor has no lowest digit.
seven_ones : (values ones ranks last : ℕ) → ones % 0x1000_0000 ≡ 0x111_1111 → values * 16 + 16 * ranks ≡ ranks + 0x1_0000_0000 * last
    → ranks < 0x1_0000_0000 → values * 16 * ones % 0x1_0000_0000 ≡ ranks
seven_ones values ones ranks last f e h =
    let r = values + ranks - 0x1000_0000 * last in
    let k = ones / 0x1000_0000 in
    let no_lowest : ranks ≡ 16 * r = omega arith in
    let factor : ones ≡ 0x111_1111 + 0x1000_0000 * k = omega arith in
    let room : r ≤ 0x111_1111 * last = omega (arith, no_lowest) in
    let carried = 0x111_1111 * last - r + values * k in
    let q : values * 16 * ones ≡ ranks + 0x1_0000_0000 * carried = omega (arith, room, no_lowest, ap (λ (x : ℕ). values * 16 * x) factor) in
    ap (λ (x : ℕ). x % 0x1_0000_0000) q ∙ add-mul-mod_self_left ranks 0x1_0000_0000 carried ∙ mod-eq_of_lt h

module _ (xs : List ℕ) where
  one : ℕ → ℕ
  one v = one_more_if (occurs v xs) 0

  rank_next : (t : ℕ) → rank xs (suc t) ≡ rank xs t + one (suc t)
  unfolding rank one
  rank_next t = one_more_if_lem (occurs (suc t) xs) (rank xs t)

  one_below : (v : ℕ) → v < 8 → one v < 16
  unfolding one
  one_below v h = one_low (occurs v xs)

  -- at most t of the values 1 to t occur
  rank_below : (t : ℕ) → t < 8 → rank xs t < 16
  rank_below t h = omega (arith, rank_grows xs 0 t (omega arith), rank_zero xs)

  -- The rank of t + 1 is that of t, and one more where t + 1 occurs: for all digits at once. The value 0 is not counted, and the last rank has no digit.
  moved_up : value_digits xs + 16 * rank_digits xs ≡ one 0 + rank_digits xs + 0x1_0000_0000 * rank xs 7
  unfolding value_digits rank_digits hexadecimal rank one
  moved_up = omega (arith, rank_next 0, rank_next 1, rank_next 2, rank_next 3, rank_next 4, rank_next 5, rank_next 6)

  values_low : value_digits xs < 0x1_0000_0000
  unfolding value_digits one
  values_low = digits_below one 8 one_below

  value_0 : value_digits xs % 16 ≡ one 0
  unfolding value_digits one
  value_0 = omega (arith, digit_at one 8 one_below 0 (omega arith))

  ranks_low : rank_digits xs < 0x1_0000_0000
  unfolding rank_digits
  ranks_low = digits_below (rank xs) 8 rank_below

  -- eight digits of the product, the digit of 0 left out
  pub product : (x ones : ℕ) → x ≡ value_digits xs → ones % 0x1000_0000 ≡ 0x111_1111 → bit_and x 0xffff_fff0 * ones % 0x1_0000_0000 ≡ rank_digits xs
  product x ones e f =
      ap (λ (y : ℕ). y * ones % 0x1_0000_0000) (and_high x 28 4) ∙ seven_ones (x / 16 % 0x1000_0000) ones (rank_digits xs) (rank xs 7) f rest ranks_low
    where
      rest : x / 16 % 0x1000_0000 * 16 + 16 * rank_digits xs ≡ rank_digits xs + 0x1_0000_0000 * rank xs 7
      rest = omega (arith, e, moved_up, lowest_apart x (omega (arith, e, values_low)), value_0, ap (λ (y : ℕ). y % 16) e)

  pub rank_at : (x : ℕ) → x ≡ rank_digits xs → (t : ℕ) → t < 8 → bits_of x 4 (4 * t) ≡ rank xs t
  unfolding rank_digits
  rank_at x e t h = ap (λ (y : ℕ). bits_of y 4 (4 * t)) e ∙ digit_at (rank xs) 8 rank_below t h
