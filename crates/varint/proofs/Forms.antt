-- Laws of the written form. Assumes nothing.
use Rattle.std.proofs.Common.{◌≡◌, ℕ, zero, suc, ◌+◌, ◌-◌, ◌*◌, ◌/◌, ◌%◌, ◌^◌, ◌<◌, ◌≤◌, Bool, true, false, List, [], ◌∷◌, ◌++◌, length, take, sym, refl, ap, ◌∙◌, ⊎_elim, pow-suc, add-one, arith}
use native.Mathlib.Nat.{one-le-pow}
use Rattle.std.proofs.lemmas.Bool.{cases_lt, lt-ltb, le-ltb, le-leb, lt-leb, ne_eqb, false≢true}
use Rattle.varint.specs.Width.{more_groups, top_group, limit, numbers}
use Rattle.varint.specs.Calls.{Fewest}
use Rattle.varint.specs.Groups.{grouped, groups, value, Reading, ended, malformed, number, before, lastly, reading}

-- a number of one group, and one of more
pub grouped-last : (left n : ℕ) → n < 128 → grouped left n ≡ n ∷ []
unfolding grouped
grouped-last zero n h = refl
grouped-last (suc left) n h = rw (lt-ltb n 128 h)

pub grouped-more : (left n : ℕ) → 128 ≤ n → grouped (suc left) n ≡ (128 + n % 128) ∷ grouped left (n / 128)
unfolding grouped
grouped-more left n h = rw (le-ltb n 128 h)

-- a number that asks for one group more is shorter behind it
pub shorter : (left n : ℕ) → n < limit (suc left) → n / 128 < limit left
shorter left n h =
    let e : n < 128 * (16 * 128 ^ left) = omega (arith, pow-suc 128 left) in
    omega arith

-- room for one group more changes no number that does without it
grouped-suc : (left n : ℕ) → n < limit left → grouped (suc left) n ≡ grouped left n
grouped-suc zero n h = let low : n < 128 = omega arith in grouped-last (suc zero) n low ∙ sym (grouped-last zero n low)
grouped-suc (suc left) n h =
    ⊎_elim
    (λ low. grouped-last (suc (suc left)) n low ∙ sym (grouped-last (suc left) n low))
    (λ high. grouped-more (suc left) n high ∙ ap (λ l. (128 + n % 128) ∷ l) (grouped-suc left (n / 128) (shorter left n h)) ∙ sym (grouped-more left n high))
    (cases_lt n 128)

-- the groups of a number, by its first
pub groups_last : (n : ℕ) → n < 128 → groups n ≡ n ∷ []
groups_last n h = grouped-last more_groups n h

pub groups_more : (n : ℕ) → 128 ≤ n → n < numbers → groups n ≡ (n % 128 + 128) ∷ groups (n / 128)
groups_more n high fits =
    let byte : 128 + n % 128 ≡ n % 128 + 128 = omega arith in
    let left = more_groups - 1 in
    grouped-more left n high ∙ (λ i. byte i ∷ sym (grouped-suc left (n / 128) (shorter left n fits)) i)

-- the first group, and those that may follow it
grouped-zero : (n : ℕ) → length (grouped zero n) ≤ 1
unfolding grouped
grouped-zero n = omega arith

length-grouped : (left n : ℕ) → length (grouped left n) ≤ left + 1
length-grouped zero n = grouped-zero n
length-grouped (suc left) n =
    ⊎_elim
    (λ low. rw (grouped-last (suc left) n low) (omega arith))
    (λ high. rw (grouped-more left n high) (omega (arith, length-grouped left (n / 128))))
    (cases_lt n 128)

pub length_groups : (n : ℕ) → length (groups n) ≤ more_groups + 1
length_groups n = length-grouped more_groups n

-- the written form stands for its number
pub value-grouped : (left n : ℕ) → n < limit left → value (grouped left n) ≡ n
unfolding grouped value
value-grouped zero n h = omega arith
value-grouped (suc left) n h =
    ⊎_elim
    (λ low. rw (lt-ltb n 128 low) (omega arith))
    (λ high. rw (le-ltb n 128 high) (omega (arith, value-grouped left (n / 128) (shorter left n h))))
    (cases_lt n 128)

-- no bytes that stand for the number are fewer
pub grouped-fewest : (left n : ℕ) (bs : List ℕ) → 0 < length bs → value bs ≡ n → length (grouped left n) ≤ length bs
unfolding grouped value
grouped-fewest left n [] some e = absurd (omega arith)
grouped-fewest zero n (b ∷ bs) some e = omega arith
grouped-fewest (suc left) n (b ∷ []) some e = rw (lt-ltb n 128 (omega arith)) (omega arith)
grouped-fewest (suc left) n (b ∷ c ∷ cs) some e =
    let tail : value (c ∷ cs) ≡ n / 128 = omega arith in
    ⊎_elim
    (λ low. rw (lt-ltb n 128 low) (omega arith))
    (λ high. rw (le-ltb n 128 high) (omega (arith, grouped-fewest left (n / 128) (c ∷ cs) (omega arith) tail)))
    (cases_lt n 128)

pub fewest : (n : ℕ) → n < numbers → Fewest n
fewest n h = record { same = value-grouped more_groups n h; fewest = grouped-fewest more_groups n }

-- one step of a reading, by the group that it meets
pub reading-end : (left : ℕ) (later : Bool) → reading left later [] ≡ ended
unfolding reading
reading-end zero later = refl
reading-end (suc left) later = refl

pub reading-last : (left : ℕ) (later : Bool) (b : ℕ) (bs : List ℕ) → b < 128 → reading (suc left) later (b ∷ bs) ≡ lastly later b
unfolding reading
reading-last left later b bs h = rw (lt-ltb b 128 h)

pub reading-more : (left : ℕ) (later : Bool) (b : ℕ) (bs : List ℕ) → 128 ≤ b → b < 256 → reading (suc left) later (b ∷ bs) ≡ before b (reading left true bs)
unfolding reading
reading-more left later b bs h k = rw (le-ltb b 128 h, lt-ltb b 256 k)

reading_no_byte : (left : ℕ) (later : Bool) (b : ℕ) (bs : List ℕ) → 256 ≤ b → reading (suc left) later (b ∷ bs) ≡ malformed
unfolding reading
reading_no_byte left later b bs h = rw (le-ltb b 128 (omega arith), le-ltb b 256 h)

pub reading_top : (later : Bool) (b : ℕ) (bs : List ℕ) → b ≤ top_group → reading zero later (b ∷ bs) ≡ lastly later b
unfolding reading
reading_top later b bs h = rw (le-leb b top_group h)

pub reading-high : (later : Bool) (b : ℕ) (bs : List ℕ) → top_group < b → reading zero later (b ∷ bs) ≡ malformed
unfolding reading
reading-high later b bs h = rw (lt-leb b top_group h)

-- a last group that is not 0 behind another
pub lastly-number : (later : Bool) (n : ℕ) → (later ≡ true → 0 < n) → lastly later n ≡ number n 1
lastly-number false n h = refl
lastly-number true n h = rw (ne_eqb n 0 (λ e. omega (arith, h refl)))

-- one group more in front of what was read
reading_longer : (left n : ℕ) (later : Bool) (rest : List ℕ) → 128 ≤ n → reading left true (grouped left (n / 128) ++ rest) ≡ number (n / 128) (length (grouped left (n / 128))) → reading (suc left) later (grouped (suc left) n ++ rest) ≡ number n (length (grouped (suc left) n))
reading_longer left n later rest high again =
    let whole : (128 + n % 128) % 128 + 128 * (n / 128) ≡ n = omega arith in
    let one = add-one (length (grouped left (n / 128))) in
    let marked : 128 ≤ 128 + n % 128 = omega arith in
    let step = reading-more left later (128 + n % 128) (grouped left (n / 128) ++ rest) marked (omega arith) in
    rw (grouped-more left n high) (step ∙ ap (before (128 + n % 128)) again ∙ cc)

-- reading what was written gives the number back
pub reading-grouped : (left n : ℕ) (later : Bool) (rest : List ℕ) → n < limit left → (later ≡ true → 0 < n) → reading left later (grouped left n ++ rest) ≡ number n (length (grouped left n))
reading-grouped zero n later rest h some =
    rw (grouped-last zero n (omega arith)) (reading_top later n rest (omega arith) ∙ lastly-number later n some)
reading-grouped (suc left) n later rest h some =
    ⊎_elim
    (λ low. rw (grouped-last (suc left) n low) (reading-last left later n rest low ∙ lastly-number later n some))
    (λ high. reading_longer left n later rest high (reading-grouped left (n / 128) true rest (shorter left n h) (λ _. omega arith)))
    (cases_lt n 128)

-- what a last group read as
lastly_tells : (later : Bool) (b n len : ℕ) → lastly later b ≡ number n len → (n ≡ b) × (len ≡ 1) × (later ≡ true → 0 < b)
lastly_tells false b n len e = (cc, cc, λ f. absurd (false≢true f))
lastly_tells true zero n len e = let z : ◌≡◌ {A = ℕ} 0 1 = cc in absurd (omega arith)
lastly_tells true (suc b) n len e = let f = lastly-number true (suc b) (λ _. omega arith) in (cc, cc, λ _. omega arith)

-- what a group with others behind it read as
before_tells : (b : ℕ) (r : Reading) (n len : ℕ) → before b r ≡ number n len → (m : ℕ) × (k : ℕ) × (r ≡ number m k) × (n ≡ b % 128 + 128 * m) × (len ≡ k + 1)
before_tells b ended n len e = let z : ◌≡◌ {A = ℕ} 0 1 = cc in absurd (omega arith)
before_tells b malformed n len e = let z : ◌≡◌ {A = ℕ} 0 1 = cc in absurd (omega arith)
before_tells b (number m k) n len e = (m, k, refl, cc, cc)

-- what a reading found: the shortest form of a number stands at the front of the bytes
pub record Front (left : ℕ) (later : Bool) (bs : List ℕ) (n len : ℕ) : Type 0 where
  pub form : take len bs ≡ grouped left n
  pub below : n < limit left
  pub first : later ≡ true → 0 < n
  pub some : 0 < len
  pub within : len ≤ length bs

-- a number of one group
front_last : (left : ℕ) (later : Bool) (b : ℕ) (bs : List ℕ) (n len : ℕ) → b < 128 → b < limit left → lastly later b ≡ number n len → Front left later (b ∷ bs) n len
front_last left later b bs n len low fits e =
    let t = lastly_tells later b n len e in
    record {
      form = rw (t.0, t.1) (sym (grouped-last left b low));
      below = omega (arith, t.0);
      first = λ l. omega (arith, t.0, t.2 l);
      some = omega (arith, t.1);
      within = omega (arith, t.1);
    }

-- a number of more groups
front_more : (left : ℕ) (later : Bool) (b : ℕ) (bs : List ℕ) (n len m k : ℕ) → 128 ≤ b → b < 256 → n ≡ b % 128 + 128 * m → len ≡ k + 1 → Front left true bs m k → Front (suc left) later (b ∷ bs) n len
front_more left later b bs n len m k high small en el f =
    let long = f.first refl in
    let rest : n / 128 ≡ m = omega arith in
    let byte : 128 + n % 128 ≡ b = omega arith in
    let shape = grouped-more left n (omega arith) in
    let one : len ≡ suc k = el ∙ add-one k in
    record {
      form = rw one (ap (λ (l : List ℕ). b ∷ l) f.form ∙ sym (shape ∙ (λ i. byte i ∷ grouped left (rest i))));
      below = omega (arith, pow-suc 128 left, f.below);
      first = λ l. omega arith;
      some = omega arith;
      within = omega (arith, f.within);
    }

pub reads_front : (left : ℕ) (later : Bool) (bs : List ℕ) (n len : ℕ) → reading left later bs ≡ number n len → Front left later bs n len
reads_front left later [] n len e = let none = sym (reading-end left later) ∙ e in let z : ◌≡◌ {A = ℕ} 0 1 = cc in absurd (omega arith)
reads_front zero later (b ∷ bs) n len e =
    ⊎_elim
    (λ low. front_last zero later b bs n len (omega arith) (omega arith) (sym (reading_top later b bs (omega arith)) ∙ e))
    (λ high. let none = sym (reading-high later b bs high) ∙ e in let z : ◌≡◌ {A = ℕ} 0 1 = cc in absurd (omega arith))
    (cases_lt b 16)
reads_front (suc left) later (b ∷ bs) n len e =
    ⊎_elim
    (λ low. front_last (suc left) later b bs n len low (omega (arith, one-le-pow left 128 (omega arith))) (sym (reading-last left later b bs low) ∙ e))
    (λ high. ⊎_elim
    (λ byte.
    let t = before_tells b (reading left true bs) n len (sym (reading-more left later b bs high byte) ∙ e) in
    front_more left later b bs n len t.0 t.1 high byte t.3 t.4 (reads_front left true bs t.0 t.1 t.2))
    (λ none. let bad = sym (reading_no_byte left later b bs none) ∙ e in let z : ◌≡◌ {A = ℕ} 0 1 = cc in absurd (omega arith))
    (cases_lt b 256))
    (cases_lt b 128)
