-- The rounds: each keeps its halves within the sides and is one-to-one, and so is their whole.
use Rattle.std.proofs.Common.{◌≡◌, ℕ, zero, suc, ◌+◌, ◌*◌, ◌%◌, ◌==◌, ◌<◌, Bool, true, false, cond, inl, inr, refl, sym, ap, ◌∙◌, subst, arith}
use Rattle.std.proofs.lemmas.Bool.{cases_Bool, eq-eqb, ne_eqb}
use Rattle.std.proofs.lemmas.Nat.{mul-add-lt, div-mul-add, mod-mul-add, div_below, mod_below, div-add-mod'}
use Rattle.std.proofs.Math.Nat.{mul_comm}
use Rattle.id_permutation.specs.declared.halves.Halves.{Halves}
use Rattle.id_permutation.specs.Walk.{IsBijectionBelow}
use Rattle.id_permutation.specs.Placement.{height_of, width_of, halves_of, number_of, IsWithin, round_count, round_number, round, rounds, mix}
use Rattle.id_permutation.proofs.BijectionLaws.{IsBijectionBelow-from_one_to_one}
use Rattle.id_permutation.proofs.ModuloLaws.{add_modulo-one}
use Rattle.id_permutation.proofs.SideLaws.{Covers, Covers-sides}

-- an even round
pub round-even : (a b seed i : ℕ) (halves : Halves) → (i % 2 == 0) ≡ true → round a b seed i halves ≡ record { left = (halves.left + round_number seed i halves.right) % a; right = halves.right }
unfolding round
round-even a b seed i halves e = ap (λ (test : Bool). cond test (record { left = (halves.left + round_number seed i halves.right) % a; right = halves.right }) (record { left = halves.left; right = (halves.right + round_number seed i halves.left) % b })) e

-- an odd round
pub round-odd : (a b seed i : ℕ) (halves : Halves) → (i % 2 == 0) ≡ false → round a b seed i halves ≡ record { left = halves.left; right = (halves.right + round_number seed i halves.left) % b }
unfolding round
round-odd a b seed i halves e = ap (λ (test : Bool). cond test (record { left = (halves.left + round_number seed i halves.right) % a; right = halves.right }) (record { left = halves.left; right = (halves.right + round_number seed i halves.left) % b })) e

-- a round keeps the halves within the sides
pub IsWithin-round : (a b seed i : ℕ) (halves : Halves) → IsWithin a b halves → IsWithin a b (round a b seed i halves)
IsWithin-round a b seed i halves within =
    elim (cases_Bool (i % 2 == 0)) [
      | inl even ↦ subst (IsWithin a b) (sym (round-even a b seed i halves even)) (record {
        left_below = mod_below _ a (let h : halves.left < a = within.left_below in omega arith);
        right_below = within.right_below;
      })
      | inr odd ↦ subst (IsWithin a b) (sym (round-odd a b seed i halves odd)) (record {
        left_below = within.left_below;
        right_below = mod_below _ b (let h : halves.right < b = within.right_below in omega arith);
      })
    ]

-- the halves made of two numbers
abbrev pub made : ℕ → ℕ → Halves
made left right = record { left = left; right = right }

-- halves are one where both their numbers are
same_halves : (h k : Halves) → h.left ≡ k.left → h.right ≡ k.right → h ≡ k
same_halves h k e d = ap (λ (l : ℕ). made l h.right) e ∙ ap (λ (r : ℕ). made k.left r) d

-- what an even round makes
pub made-even : (a b seed i left : ℕ) (halves : Halves) → i % 2 ≡ 0 → left ≡ (halves.left + round_number seed i halves.right) % a → made left halves.right ≡ round a b seed i halves
made-even a b seed i left halves even e =
    ap (λ (l : ℕ). made l halves.right) e ∙ sym (round-even a b seed i halves (eq-eqb _ _ even))

-- what an odd round makes
pub made-odd : (a b seed i right : ℕ) (halves : Halves) → i % 2 ≡ 1 → right ≡ (halves.right + round_number seed i halves.left) % b → made halves.left right ≡ round a b seed i halves
made-odd a b seed i right halves odd e =
    ap (λ (r : ℕ). made halves.left r) e ∙ sym (round-odd a b seed i halves (ne_eqb _ _ (λ even. absurd (omega arith))))

-- what an even round makes these halves of
pub even_round-made : (a b seed i left : ℕ) (halves : Halves) → i % 2 ≡ 0 → (left + round_number seed i halves.right) % a ≡ halves.left → round a b seed i (made left halves.right) ≡ halves
even_round-made a b seed i left halves even e =
    round-even a b seed i (made left halves.right) (eq-eqb _ _ even) ∙ ap (λ (l : ℕ). made l halves.right) e

-- what an odd round makes these halves of
pub odd_round-made : (a b seed i right : ℕ) (halves : Halves) → i % 2 ≡ 1 → (right + round_number seed i halves.left) % b ≡ halves.right → round a b seed i (made halves.left right) ≡ halves
odd_round-made a b seed i right halves odd e =
    round-odd a b seed i (made halves.left right) (ne_eqb _ _ (λ even. absurd (omega arith))) ∙ ap (λ (r : ℕ). made halves.left r) e

-- a round is one-to-one
pub round-one : (a b seed i : ℕ) (h k : Halves) → IsWithin a b h → IsWithin a b k → round a b seed i h ≡ round a b seed i k → h ≡ k
round-one a b seed i h k within_h within_k e =
    elim (cases_Bool (i % 2 == 0)) [
      | inl even ↦
          let both : record { left = (h.left + round_number seed i h.right) % a; right = h.right } ≡ record { left = (k.left + round_number seed i k.right) % a; right = k.right } =
          sym (round-even a b seed i h even) ∙ e ∙ round-even a b seed i k even in
          let right : h.right ≡ k.right = ap (λ (x : Halves). x.right) both in
          let left : (h.left + round_number seed i h.right) % a ≡ (k.left + round_number seed i h.right) % a =
          ap (λ (x : Halves). x.left) both ∙ ap (λ (r : ℕ). (k.left + round_number seed i r) % a) (sym right) in
          same_halves h k (add_modulo-one _ _ _ a within_h.left_below within_k.left_below left) right
      | inr odd ↦
          let both : record { left = h.left; right = (h.right + round_number seed i h.left) % b } ≡ record { left = k.left; right = (k.right + round_number seed i k.left) % b } =
          sym (round-odd a b seed i h odd) ∙ e ∙ round-odd a b seed i k odd in
          let left : h.left ≡ k.left = ap (λ (x : Halves). x.left) both in
          let right : (h.right + round_number seed i h.left) % b ≡ (k.right + round_number seed i h.left) % b =
          ap (λ (x : Halves). x.right) both ∙ ap (λ (l : ℕ). (k.right + round_number seed i l) % b) (sym left) in
          same_halves h k left (add_modulo-one _ _ _ b within_h.right_below within_k.right_below right)
    ]

pub rounds-zero : (a b seed : ℕ) (halves : Halves) → rounds a b seed zero halves ≡ halves
unfolding rounds
rounds-zero a b seed halves = refl

pub rounds-suc : (a b seed k : ℕ) (halves : Halves) → rounds a b seed (suc k) halves ≡ round a b seed k (rounds a b seed k halves)
unfolding rounds
rounds-suc a b seed k halves = refl

pub IsWithin-rounds : (a b seed k : ℕ) (halves : Halves) → IsWithin a b halves → IsWithin a b (rounds a b seed k halves)
unfolding rounds
IsWithin-rounds a b seed zero halves within = within
IsWithin-rounds a b seed (suc k) halves within = IsWithin-round a b seed k _ (IsWithin-rounds a b seed k halves within)

pub rounds-one : (a b seed k : ℕ) (g h : Halves) → IsWithin a b g → IsWithin a b h → rounds a b seed k g ≡ rounds a b seed k h → g ≡ h
unfolding rounds
rounds-one a b seed zero g h within_g within_h e = e
rounds-one a b seed (suc k) g h within_g within_h e =
    rounds-one a b seed k g h within_g within_h
    (round-one a b seed k _ _ (IsWithin-rounds a b seed k g within_g) (IsWithin-rounds a b seed k h within_h) e)

-- the halves of a number of the rectangle
pub IsWithin-halves_of : (a b x : ℕ) → 0 < b → x < a * b → IsWithin a b (halves_of b x)
IsWithin-halves_of a b x wide h = record { left_below = div_below x b a wide h; right_below = mod_below x b wide }

-- a number is that of its halves
pub number_of-halves_of : (b x : ℕ) → number_of b (halves_of b x) ≡ x
number_of-halves_of b x = div-add-mod' x b

-- the halves of a number are those that it was made of
pub halves_of-number_of : (b : ℕ) (halves : Halves) → halves.right < b → halves_of b (number_of b halves) ≡ halves
halves_of-number_of b halves h =
    same_halves _ halves (div-mul-add halves.left b halves.right h) (mod-mul-add halves.left b halves.right h)

-- the number of two halves lies in the rectangle
pub number_of-within : (a b : ℕ) (halves : Halves) → IsWithin a b halves → number_of b halves < a * b
number_of-within a b halves within =
    let h : halves.left * b + halves.right < b * a = mul-add-lt halves.left b halves.right a within.left_below within.right_below in
    subst (λ (m : ℕ). number_of b halves < m) (mul_comm b a) h

-- the map of the rectangle's numbers is a bijection
pub IsBijectionBelow-mix : (n seed : ℕ) → 0 < n → IsBijectionBelow (height_of n * width_of n) (mix n seed)
unfolding mix
IsBijectionBelow-mix n seed some =
    let a = height_of n in
    let b = width_of n in
    let covers : Covers n a b = Covers-sides n some in
    let after : (x : ℕ) → x < a * b → IsWithin a b (rounds a b seed round_count (halves_of b x)) =
    λ x h. IsWithin-rounds a b seed round_count _ (IsWithin-halves_of a b x covers.wide h) in
    IsBijectionBelow-from_one_to_one (a * b) (mix n seed)
    (λ x h. number_of-within a b _ (after x h))
    (λ x y hx hy e.
    let halves : rounds a b seed round_count (halves_of b x) ≡ rounds a b seed round_count (halves_of b y) =
    sym (halves_of-number_of b _ (after x hx).right_below) ∙ ap (halves_of b) e ∙ halves_of-number_of b _ (after y hy).right_below in
    let start : halves_of b x ≡ halves_of b y =
    rounds-one a b seed round_count _ _ (IsWithin-halves_of a b x covers.wide hx) (IsWithin-halves_of a b y covers.wide hy) halves in
    sym (number_of-halves_of b x) ∙ ap (number_of b) start ∙ number_of-halves_of b y)

-- the map, by sides that are those of n
mix_by : ℕ → ℕ → ℕ → ℕ → ℕ
mix_by a b seed x = number_of b (rounds a b seed round_count (halves_of b x))

mix-by : (n seed x a b : ℕ) → a ≡ height_of n → b ≡ width_of n → mix_by a b seed x ≡ mix n seed x
unfolding mix mix_by
mix-by n seed x a b tall wide =
    ap (λ (k : ℕ). mix_by k b seed x) tall ∙ ap (λ (k : ℕ). mix_by (height_of n) k seed x) wide

-- what the rounds make of a number
pub number_of-rounds : (n seed x a b : ℕ) (halves : Halves) → a ≡ height_of n → b ≡ width_of n → halves ≡ rounds a b seed round_count (halves_of b x) → number_of b halves ≡ mix n seed x
unfolding mix_by
number_of-rounds n seed x a b halves tall wide e = ap (number_of b) e ∙ mix-by n seed x a b tall wide

-- what the rounds make a number of
pub mix-number_of : (n seed x a b : ℕ) (halves : Halves) → a ≡ height_of n → b ≡ width_of n → IsWithin a b halves → rounds a b seed round_count halves ≡ halves_of b x → mix n seed (number_of b halves) ≡ x
unfolding mix_by
mix-number_of n seed x a b halves tall wide within e =
    sym (mix-by n seed (number_of b halves) a b tall wide)
    ∙ ap (λ (h : Halves). number_of b (rounds a b seed round_count h)) (halves_of-number_of b halves within.right_below)
    ∙ ap (number_of b) e
    ∙ number_of-halves_of b x

-- two rounds more
pub rounds-two : (a b seed k : ℕ) (halves : Halves) → rounds a b seed (2 * (k + 1)) halves ≡ round a b seed (2 * k + 1) (round a b seed (2 * k) (rounds a b seed (2 * k) halves))
rounds-two a b seed k halves =
    let odd : 2 * (k + 1) ≡ suc (2 * k + 1) = omega arith in
    let even : 2 * k + 1 ≡ suc (2 * k) = omega arith in
    ap (λ (j : ℕ). rounds a b seed j halves) odd
    ∙ rounds-suc a b seed (2 * k + 1) halves
    ∙ ap (λ (j : ℕ). round a b seed (2 * k + 1) (rounds a b seed j halves)) even
    ∙ ap (round a b seed (2 * k + 1)) (rounds-suc a b seed (2 * k) halves)
