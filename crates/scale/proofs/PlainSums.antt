-- What the laws of a plain scale give of multiples and weighted sums.
use Rattle.std.proofs.Common.{◌≡◌, ℕ, zero, suc, ◌+◌, ◌-◌, ◌*◌, ◌^◌, ◌<◌, ◌≤◌, true, sym, refl, ap, ◌∙◌, suc-add, add-one, mul-le-mul_left, zero-add, arith}
use Rattle.rules.specs.Limits.{most_tokens}
use Rattle.scale.specs.Scales.{Group, Plain}
use Rattle.scale.specs.Sums.{difference, most_reach, times, weighed}

module _ {W : Type 0} (G : Group W) (L : Plain G) where
  pub times_on : (n : ℕ) (w : W) → G.on w ≡ true → G.on (times G n w) ≡ true
  unfolding times
  times_on zero w h = L.nil_on
  times_on (suc n) w h = L.plus_on w _ h (times_on n w h)

  pub times_reach : (n : ℕ) (w : W) → G.reach (times G n w) ≤ n * G.reach w
  unfolding times
  times_reach zero w = omega (arith, L.nil_reach)
  times_reach (suc n) w = omega (arith, L.plus_reach w (times G n w), times_reach n w)

  pub times_light : (n : ℕ) (w : W) → n < 65536 → G.reach w ≤ most_reach → G.reach (times G n w) ≤ 2 ^ 31
  times_light n w h k =
      let r = times_reach n w in
      let m : n * G.reach w ≤ n * most_reach = mul-le-mul_left n k in
      omega arith

  plus_nil : (a : W) → G.on a ≡ true → G.plus a G.nil ≡ a
  plus_nil a h = L.comm a G.nil ∙ L.unit a h

  opp_nil : G.opp G.nil ≡ G.nil
  opp_nil = sym (L.unit (G.opp G.nil) (L.opp_on G.nil L.nil_on)) ∙ L.inverse G.nil L.nil_on

  times_nil : (n : ℕ) → times G n G.nil ≡ G.nil
  unfolding times
  times_nil zero = refl
  times_nil (suc n) = ap (G.plus G.nil) (times_nil n) ∙ L.unit G.nil L.nil_on

  -- a weight of zero adds nothing
  pub difference_nil : (a b : ℕ) → difference G a b G.nil ≡ G.nil
  difference_nil a b =
      (λ i. G.plus (times_nil a i) (G.opp (times_nil b i))) ∙ ap (G.plus G.nil) opp_nil ∙ L.unit G.nil L.nil_on

  pub difference_on : (a b : ℕ) (w : W) → G.on w ≡ true → G.on (difference G a b w) ≡ true
  difference_on a b w h = L.plus_on _ _ (times_on a w h) (L.opp_on _ (times_on b w h))

  pub difference_light : (a b : ℕ) (w : W) → a + b ≤ most_tokens → G.reach w ≤ most_reach → G.reach (difference G a b w) ≤ 2 ^ 31
  difference_light a b w h l =
      let x = times_reach a w in
      let y = times_reach b w in
      let m : a * G.reach w ≤ a * most_reach = mul-le-mul_left a l in
      let k : b * G.reach w ≤ b * most_reach = mul-le-mul_left b l in
      let o = L.opp_reach (times G b w) in
      let p = L.plus_reach (times G a w) (G.opp (times G b w)) in
      omega arith

  interchange : (a b c d : W) → G.plus (G.plus a b) (G.plus c d) ≡ G.plus (G.plus a c) (G.plus b d)
  interchange a b c d =
      L.assoc a b (G.plus c d)
      ∙ ap (G.plus a) (sym (L.assoc b c d) ∙ ap (λ x. G.plus x d) (L.comm b c) ∙ L.assoc c b d)
      ∙ sym (L.assoc a c (G.plus b d))

  times_add : (m n : ℕ) (w : W) → G.on w ≡ true → times G (m + n) w ≡ G.plus (times G m w) (times G n w)
  unfolding times
  times_add zero n w h = ap (λ (k : ℕ). times G k w) (zero-add n) ∙ sym (L.unit _ (times_on n w h))
  times_add (suc m) n w h =
      ap (λ (k : ℕ). times G k w) (suc-add m n) ∙ ap (G.plus w) (times_add m n w h) ∙ sym (L.assoc _ _ _)

  difference_none : (n : ℕ) (w : W) → G.on w ≡ true → difference G n 0 w ≡ times G n w
  unfolding times
  difference_none n w h = ap (G.plus (times G n w)) opp_nil ∙ plus_nil (times G n w) (times_on n w h)

  -- a place that loses i of its m tokens and gains o
  pub difference_fired : (m i o : ℕ) (w : W) → i ≤ m → G.on w ≡ true → difference G ((m - i) + o) 0 w ≡ G.plus (difference G m 0 w) (difference G o i w)
  difference_fired m i o w le h =
      let kept = times G (m - i) w in
      let gained = times G o w in
      let lost = times G i w in
      let whole : times G m w ≡ G.plus kept lost = ap (λ (k : ℕ). times G k w) (let e : m ≡ (m - i) + i = omega arith in e) ∙ times_add (m - i) i w h in
      let sum-on = L.plus_on _ _ (times_on (m - i) w h) (times_on o w h) in
      difference_none ((m - i) + o) w h
      ∙ times_add (m - i) o w h
      ∙ sym (plus_nil _ sum-on)
      ∙ ap (G.plus (G.plus kept gained)) (sym (L.inverse lost (times_on i w h)))
      ∙ interchange kept gained lost (G.opp lost)
      ∙ ap (λ x. G.plus x (G.plus gained (G.opp lost))) (sym (difference_none m w h ∙ whole))

  pub plus_moves : (a b c : W) → G.plus (G.plus a b) c ≡ G.plus (G.plus a c) b
  plus_moves a b c = L.assoc a b c ∙ ap (G.plus a) (L.comm b c) ∙ sym (L.assoc a c b)

  module _ (ws : ℕ → W) (on : (p : ℕ) → G.on (ws p) ≡ true) where
    pub weighed_on : (more fewer : ℕ → ℕ) (n : ℕ) → G.on (weighed G more fewer ws n) ≡ true
    unfolding weighed
    weighed_on more fewer zero = L.nil_on
    weighed_on more fewer (suc n) = L.plus_on _ _ (weighed_on more fewer n) (difference_on (more n) (fewer n) (ws n) (on n))

    -- the weight after a change is the weight before and that of the change
    pub weighed_fired : (m i o : ℕ → ℕ) (n : ℕ) → ((p : ℕ) → p < n → i p ≤ m p) → weighed G (λ p. (m p - i p) + o p) (λ _. 0) ws n ≡ G.plus (weighed G m (λ _. 0) ws n) (weighed G o i ws n)
    unfolding weighed
    weighed_fired m i o zero le = sym (L.unit G.nil L.nil_on)
    weighed_fired m i o (suc n) le =
        (λ j. G.plus (weighed_fired m i o n (λ p h. le p (omega arith)) j) (difference_fired (m n) (i n) (o n) (ws n) (le n (omega arith)) (on n) j))
        ∙ interchange _ _ _ _

module _ {W : Type 0} (G : Group W) (more fewer : ℕ → ℕ) (ws : ℕ → W) where
  pub weighed_none : weighed G more fewer ws 0 ≡ G.nil
  unfolding weighed
  weighed_none = refl

  -- one place more
  pub weighed_more : (n : ℕ) → weighed G more fewer ws (n + 1) ≡ G.plus (weighed G more fewer ws n) (difference G (more n) (fewer n) (ws n))
  unfolding weighed
  weighed_more n = ap (weighed G more fewer ws) (add-one n)

pub ruleset weighing = (weighed_none, weighed_more)

-- what a difference of counts times a weight comes to
pub ruleset differences = (times_on, times_light, difference_on, difference_light, difference_nil)
