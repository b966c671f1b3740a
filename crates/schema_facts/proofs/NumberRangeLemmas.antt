-- Numbers within the ends that facts tell: what is added to or multiplied by an operand stays in range, and within the next ends.
use Rattle.std.proofs.Common.{◌≡◌, ◌∙◌, ℕ, ℤ, pos, negsuc, neg_ℤ, suc, ◌+◌, ◌-◌, ◌*◌, ◌≤◌, ◌^◌, ◌+ℤ◌, ◌*ℤ◌, ◌≤ℤ◌, ◌&&◌, Bool, true, false, cond, int_le, nat_le, Option, Some, None, option_and_then, refl, sym, ap, subst, arith}
use Rattle.std.specs.Int.{int_max, int_min}
use Rattle.std.specs.Option.{unwrap_or}
use Rattle.std.proofs.Math.Nat.{mul-le-mul_right, mul_comm}
use Rattle.std.proofs.lemmas.Bool.{and_parts}
use Rattle.std.proofs.lemmas.Float.{T_from_true}
use Rattle.std.proofs.lemmas.Int.{clamps, ints}
use Rattle.std.specs.Int.Signed.{le_z_yes}
use Rattle.schema_facts.specs.declared.numbers.Numbers.{Numbers}
use Rattle.schema_facts.specs.Ends.{AddsWithin, IsBetween, IsInRange, IsWithin, MultipliesWithin}
use Rattle.schema_facts.specs.Numbers.{greater, in_range, joined, lesser, product_end, scaled, sum_end}

-- ---- products of whole numbers with signs

mul-comm : (a b : ℤ) → a *ℤ b ≡ b *ℤ a
mul-comm (pos a) (pos b) = ap pos (mul_comm a b)
mul-comm (pos a) (negsuc b) = ap (λ n. neg_ℤ (pos n)) (mul_comm a (suc b))
mul-comm (negsuc a) (pos b) = ap (λ n. neg_ℤ (pos n)) (mul_comm (suc a) b)
mul-comm (negsuc a) (negsuc b) = ap pos (mul_comm (suc a) (suc b))

-- a greater number times one that isn't below 0
mul-rises : (a b : ℤ) (k : ℕ) → a ≤ℤ b → (a *ℤ pos k) ≤ℤ (b *ℤ pos k)
mul-rises (pos a) (pos b) k h = let more : a * k ≤ b * k = mul-le-mul_right k (omega (arith, ints, h)) in omega (arith, ints, more)
mul-rises (pos a) (negsuc b) k h = absurd (omega (arith, ints, h))
mul-rises (negsuc a) (pos b) k h = omega (arith, ints)
mul-rises (negsuc a) (negsuc b) k h = let more : suc b * k ≤ suc a * k = mul-le-mul_right k (omega (arith, ints, h)) in omega (arith, ints, more)

-- and times one below 0
mul-falls : (a b : ℤ) (k : ℕ) → a ≤ℤ b → (b *ℤ negsuc k) ≤ℤ (a *ℤ negsuc k)
mul-falls (pos a) (pos b) k h = let more : a * suc k ≤ b * suc k = mul-le-mul_right (suc k) (omega (arith, ints, h)) in omega (arith, ints, more)
mul-falls (pos a) (negsuc b) k h = absurd (omega (arith, ints, h))
mul-falls (negsuc a) (pos b) k h = omega (arith, ints)
mul-falls (negsuc a) (negsuc b) k h = let more : suc b * suc k ≤ suc a * suc k = mul-le-mul_right (suc k) (omega (arith, ints, h)) in omega (arith, ints, more)

-- times another number it is between the lesser and the greater of their products
mul-between : (least greatest n by : ℤ) → IsBetween least greatest n → IsBetween (int_min (least *ℤ by) (greatest *ℤ by)) (int_max (least *ℤ by) (greatest *ℤ by)) (n *ℤ by)
mul-between least greatest n (pos by) h =
    let low = mul-rises least n by h.from in
    let high = mul-rises n greatest by h.to in
    record { from = omega (arith, ints, clamps, low); to = omega (arith, ints, clamps, high) }
mul-between least greatest n (negsuc by) h =
    let low = mul-falls least n by h.from in
    let high = mul-falls n greatest by h.to in
    record { from = omega (arith, ints, clamps, high); to = omega (arith, ints, clamps, low) }

-- a number between two that are between two others is between these
between-between : (least greatest one other n : ℤ) → IsBetween least greatest one → IsBetween least greatest other → IsBetween (int_min one other) (int_max one other) n → IsBetween least greatest n
between-between least greatest one other n p q h =
    record { from = omega (arith, ints, clamps, p.from, q.from, h.from); to = omega (arith, ints, clamps, p.to, q.to, h.to) }

-- ends that are further apart
wider-left : (a b c d n : ℤ) → IsBetween (int_min a b) (int_max a b) n → IsBetween (int_min (int_min a b) (int_min c d)) (int_max (int_max a b) (int_max c d)) n
wider-left a b c d n h = record { from = lower (int_min a b) (int_min c d) n h.from; to = higher (int_max a b) (int_max c d) n h.to }
  where
    lower : (p q m : ℤ) → p ≤ℤ m → int_min p q ≤ℤ m
    lower p q m h = omega (arith, ints, clamps, h)

    higher : (p q m : ℤ) → m ≤ℤ p → m ≤ℤ int_max p q
    higher p q m h = omega (arith, ints, clamps, h)

wider-right : (a b c d n : ℤ) → IsBetween (int_min c d) (int_max c d) n → IsBetween (int_min (int_min a b) (int_min c d)) (int_max (int_max a b) (int_max c d)) n
wider-right a b c d n h = record { from = lower (int_min a b) (int_min c d) n h.from; to = higher (int_max a b) (int_max c d) n h.to }
  where
    lower : (p q m : ℤ) → q ≤ℤ m → int_min p q ≤ℤ m
    lower p q m h = omega (arith, ints, clamps, h)

    higher : (p q m : ℤ) → m ≤ℤ q → m ≤ℤ int_max p q
    higher p q m h = omega (arith, ints, clamps, h)

-- the same with the other factor first
mul-between-left : (by least greatest n : ℤ) → IsBetween least greatest n → IsBetween (int_min (by *ℤ least) (by *ℤ greatest)) (int_max (by *ℤ least) (by *ℤ greatest)) (by *ℤ n)
mul-between-left by least greatest n h =
    subst (λ p. IsBetween (int_min (by *ℤ least) (by *ℤ greatest)) (int_max (by *ℤ least) (by *ℤ greatest)) p) (mul-comm n by)
    (subst (λ p. IsBetween (int_min (by *ℤ least) p) (int_max (by *ℤ least) p) (n *ℤ by)) (mul-comm greatest by)
    (subst (λ p. IsBetween (int_min p (greatest *ℤ by)) (int_max p (greatest *ℤ by)) (n *ℤ by)) (mul-comm least by)
    (mul-between least greatest n by h)))

-- the product of two numbers is between the least and the greatest of the four products of an end with an end
pub products-between : (a b c d x y : ℤ) → IsBetween a b x → IsBetween c d y →
    IsBetween (int_min (int_min (a *ℤ c) (a *ℤ d)) (int_min (b *ℤ c) (b *ℤ d))) (int_max (int_max (a *ℤ c) (a *ℤ d)) (int_max (b *ℤ c) (b *ℤ d))) (x *ℤ y)
products-between a b c d x y p q =
    let least = int_min (int_min (a *ℤ c) (a *ℤ d)) (int_min (b *ℤ c) (b *ℤ d)) in
    let greatest = int_max (int_max (a *ℤ c) (a *ℤ d)) (int_max (b *ℤ c) (b *ℤ d)) in
    between-between least greatest (a *ℤ y) (b *ℤ y) (x *ℤ y)
    (wider-left (a *ℤ c) (a *ℤ d) (b *ℤ c) (b *ℤ d) (a *ℤ y) (mul-between-left a c d y q))
    (wider-right (a *ℤ c) (a *ℤ d) (b *ℤ c) (b *ℤ d) (b *ℤ y) (mul-between-left b c d y q))
    (mul-between a b x y p)

-- ---- what facts tell of numbers that are joined

pub in_range-parts : (n m : ℤ) → in_range n ≡ Some m → (n ≡ m) × IsInRange n
in_range-parts n m h = of_test (int_le (neg_ℤ (pos (2 ^ 63 - 1))) n && int_le n (pos (2 ^ 63 - 1))) refl h
  where
    of_test : (test : Bool) → (int_le (neg_ℤ (pos (2 ^ 63 - 1))) n && int_le n (pos (2 ^ 63 - 1))) ≡ test → cond test (Some n) None ≡ Some m → (n ≡ m) × IsInRange n
    of_test true is h =
        let parts = and_parts (int_le (neg_ℤ (pos (2 ^ 63 - 1))) n) (int_le n (pos (2 ^ 63 - 1))) is in (
          ap (λ (o : Option ℤ). unwrap_or o n) h,
          record { from = le_z_yes (T_from_true _ parts.0); to = le_z_yes (T_from_true _ parts.1) },
        )
    of_test false is h = absurd (cc)

-- the parts of what is joined
pub joined-parts : (decimals reads : ℕ) (least greatest : Option ℤ) (total : Numbers) → joined decimals least greatest reads ≡ Some total → (least ≡ Some total.least) × (greatest ≡ Some total.greatest)
joined-parts decimals reads None greatest total h = absurd (cc)
joined-parts decimals reads (Some least) None total h = absurd (cc)
joined-parts decimals reads (Some least) (Some greatest) total h = of_test (nat_le decimals 9 && nat_le reads 64) h
  where
    made : Numbers
    made = record { decimals = decimals; least = least; greatest = greatest; reads = reads }

    of_test : (test : Bool) → cond test (Some made) None ≡ Some total → (Some least ≡ Some total.least) × (Some greatest ≡ Some total.greatest)
    of_test true h = (ap (λ (o : Option Numbers). Some (unwrap_or o total).least) h, ap (λ (o : Option Numbers). Some (unwrap_or o total).greatest) h)
    of_test false h = absurd (cc)

-- an end of a sum
sum_end-parts : (more : ℕ) (so_far end n : ℤ) → sum_end more so_far end ≡ Some n → (n ≡ so_far +ℤ scaled more end) × IsInRange (scaled more end) × IsInRange n
sum_end-parts more so_far end n h = of_end (in_range (scaled more end)) refl h
  where
    of_end : (found : Option ℤ) → in_range (scaled more end) ≡ found → option_and_then (λ m. in_range (so_far +ℤ m)) found ≡ Some n → (n ≡ so_far +ℤ scaled more end) × IsInRange (scaled more end) × IsInRange n
    of_end None is h = absurd (cc)
    of_end (Some m) is h =
        let operand = in_range-parts (scaled more end) m is in
        let whole = in_range-parts (so_far +ℤ m) n h in
        (sym whole.0 ∙ ap (λ k. so_far +ℤ k) (sym operand.0), operand.1, subst IsInRange whole.0 whole.1)

-- one more operand of a sum
pub plus-within : (so_far operand total : Numbers) → AddsWithin so_far operand total
plus-within so_far operand total h x y p q =
    let more = so_far.decimals - operand.decimals in
    let parts = joined-parts so_far.decimals (so_far.reads + operand.reads) (sum_end more so_far.least operand.least) (sum_end more so_far.greatest operand.greatest) total h in
    let least = sum_end-parts more so_far.least operand.least total.least parts.0 in
    let greatest = sum_end-parts more so_far.greatest operand.greatest total.greatest parts.1 in
    let low = mul-rises operand.least y (10 ^ more) q.from in
    let high = mul-rises y operand.greatest (10 ^ more) q.to in
    added so_far.least so_far.greatest (scaled more operand.least) (scaled more operand.greatest) total.least total.greatest x (scaled more y)
    least.0 greatest.0 least.1 greatest.1 least.2 greatest.2 p (record { from = low; to = high })
  where
    added : (a b c d l g x y : ℤ) → l ≡ a +ℤ c → g ≡ b +ℤ d → IsInRange c → IsInRange d → IsInRange l → IsInRange g → IsBetween a b x → IsBetween c d y → IsInRange y × IsInRange (x +ℤ y) × IsBetween l g (x +ℤ y)
    added a b c d l g x y low high c_in d_in l_in g_in p q =
        let from : l ≤ℤ (x +ℤ y) = omega (arith, ints, low, p.from, q.from) in
        let to : (x +ℤ y) ≤ℤ g = omega (arith, ints, high, p.to, q.to) in (
          record { from = omega (arith, ints, c_in.from, q.from); to = omega (arith, ints, d_in.to, q.to) },
          record { from = omega (arith, ints, l_in.from, from); to = omega (arith, ints, g_in.to, to) },
          record { from = from; to = to },
        )

-- an end of a product
product_end-parts : (so_far end n : ℤ) → product_end so_far end ≡ Some n → (n ≡ so_far *ℤ end) × IsInRange end × IsInRange n
product_end-parts so_far end n h = of_end (in_range end) refl h
  where
    of_end : (found : Option ℤ) → in_range end ≡ found → option_and_then (λ m. in_range (so_far *ℤ m)) found ≡ Some n → (n ≡ so_far *ℤ end) × IsInRange end × IsInRange n
    of_end None is h = absurd (cc)
    of_end (Some m) is h =
        let operand = in_range-parts end m is in
        let whole = in_range-parts (so_far *ℤ m) n h in
        (sym whole.0 ∙ ap (λ k. so_far *ℤ k) (sym operand.0), operand.1, subst IsInRange whole.0 whole.1)

-- four ends that are there, and the least and the greatest of them
record AreFour (a b c d : Option ℤ) (least greatest : ℤ) : Type 0 where
  one : ℤ
  two : ℤ
  three : ℤ
  four : ℤ
  one_is : a ≡ Some one
  two_is : b ≡ Some two
  three_is : c ≡ Some three
  four_is : d ≡ Some four
  least_is : least ≡ int_min (int_min one two) (int_min three four)
  greatest_is : greatest ≡ int_max (int_max one two) (int_max three four)

four_ends : (a b c d : Option ℤ) (least greatest : ℤ) → lesser (lesser a b) (lesser c d) ≡ Some least → greater (greater a b) (greater c d) ≡ Some greatest → AreFour a b c d least greatest
four_ends None b c d least greatest low high = absurd (cc)
four_ends (Some a) None c d least greatest low high = absurd (cc)
four_ends (Some a) (Some b) None d least greatest low high = absurd (cc)
four_ends (Some a) (Some b) (Some c) None least greatest low high = absurd (cc)
four_ends (Some a) (Some b) (Some c) (Some d) least greatest low high =
    record {
      one = a;
      two = b;
      three = c;
      four = d;
      one_is = refl;
      two_is = refl;
      three_is = refl;
      four_is = refl;
      least_is = sym (ap (λ (o : Option ℤ). unwrap_or o least) low);
      greatest_is = sym (ap (λ (o : Option ℤ). unwrap_or o greatest) high);
    }

-- one more operand of a product
pub times-within : (so_far operand total : Numbers) → MultipliesWithin so_far operand total
times-within so_far operand total h x y p q =
    let a = product_end so_far.least operand.least in
    let b = product_end so_far.least operand.greatest in
    let c = product_end so_far.greatest operand.least in
    let d = product_end so_far.greatest operand.greatest in
    let parts = joined-parts (so_far.decimals + operand.decimals) (so_far.reads + operand.reads) (lesser (lesser a b) (lesser c d)) (greater (greater a b) (greater c d)) total h in
    let ends = four_ends a b c d total.least total.greatest parts.0 parts.1 in
    let one = product_end-parts so_far.least operand.least ends.one ends.one_is in
    let two = product_end-parts so_far.least operand.greatest ends.two ends.two_is in
    let three = product_end-parts so_far.greatest operand.least ends.three ends.three_is in
    let four = product_end-parts so_far.greatest operand.greatest ends.four ends.four_is in
    let whole : IsWithin total (x *ℤ y) =
    between-these (so_far.least *ℤ operand.least) (so_far.least *ℤ operand.greatest) (so_far.greatest *ℤ operand.least) (so_far.greatest *ℤ operand.greatest)
    ends.one ends.two ends.three ends.four total.least total.greatest (x *ℤ y)
    one.0 two.0 three.0 four.0 ends.least_is ends.greatest_is (products-between so_far.least so_far.greatest operand.least operand.greatest x y p q) in (
      record { from = omega (arith, ints, one.1.from, q.from); to = omega (arith, ints, two.1.to, q.to) },
      in_range-four ends.one ends.two ends.three ends.four total.least total.greatest (x *ℤ y) one.2 two.2 three.2 four.2 ends.least_is ends.greatest_is whole,
      whole,
    )
  where
    lowest : {a b c d a' b' c' d' : ℤ} → a' ≡ a → b' ≡ b → c' ≡ c → d' ≡ d → int_min (int_min a' b') (int_min c' d') ≡ int_min (int_min a b) (int_min c d)
    lowest p q r s = cc

    highest : {a b c d a' b' c' d' : ℤ} → a' ≡ a → b' ≡ b → c' ≡ c → d' ≡ d → int_max (int_max a' b') (int_max c' d') ≡ int_max (int_max a b) (int_max c d)
    highest p q r s = cc

    between-these : (a b c d a' b' c' d' least greatest n : ℤ) → a' ≡ a → b' ≡ b → c' ≡ c → d' ≡ d → least ≡ int_min (int_min a' b') (int_min c' d') → greatest ≡ int_max (int_max a' b') (int_max c' d') →
        IsBetween (int_min (int_min a b) (int_min c d)) (int_max (int_max a b) (int_max c d)) n → IsBetween least greatest n
    between-these a b c d a' b' c' d' least greatest n p q r s low high h = subst (λ k. IsBetween k greatest n) (sym (low ∙ lowest p q r s)) (subst (λ k. IsBetween (int_min (int_min a b) (int_min c d)) k n) (sym (high ∙ highest p q r s)) h)

    in_range-four : (a b c d least greatest n : ℤ) → IsInRange a → IsInRange b → IsInRange c → IsInRange d → least ≡ int_min (int_min a b) (int_min c d) → greatest ≡ int_max (int_max a b) (int_max c d) → IsBetween least greatest n → IsInRange n
    in_range-four a b c d least greatest n a_in b_in c_in d_in low high h =
        record {
          from = omega (arith, ints, clamps, low, a_in.from, b_in.from, c_in.from, d_in.from, h.from);
          to = omega (arith, ints, clamps, high, a_in.to, b_in.to, c_in.to, d_in.to, h.to);
        }
