-- The ends of links by state, and what one more mark does to them.
use Rattle.ld_graph.proofs.Names.{[], ◌<◌, ◌↔◌, ◌∙◌, ◌≡◌, ◌⊎◌, Bool, Enabled, Ends, Fact, Irq, LeavesFrom, LinkArrives, LinkLeaves, List, Mark, Marked, TakesMark, Used, UsedIn, ap, arith, cases_eq, false, get_or, get_or-set_other, get_or-set_same, has_bit, inl, inr, irq_number, length, reaches, refl, set, subst, suc, sym, true, zero, ℕ}
use Rattle.ld_trace.specs.declared.event.Irq.TheVariants.{Hard, Soft}
use Rattle.ld_facts.specs.declared.fact.Fact.TheVariants.{Dependency}

-- ---- states by their numbers
pub irq_number-lt : (irq : Irq) → irq_number irq < 2
irq_number-lt Hard = omega arith
irq_number-lt Soft = omega arith

abbrev irq_of : ℕ → Irq
irq_of zero = Hard
irq_of (suc n) = Soft

irq_of-number : (irq : Irq) → irq_of (irq_number irq) ≡ irq
irq_of-number Hard = refl
irq_of-number Soft = refl

irq_number-same : (i j : Irq) → irq_number i ≡ irq_number j → i ≡ j
irq_number-same i j e = sym (irq_of-number i) ∙ ap irq_of e ∙ irq_of-number j

pub irq_numbered : (n : ℕ) → n < 2 → (irq : Irq) × (irq_number irq ≡ n)
irq_numbered zero l = (Hard, refl)
irq_numbered (suc zero) l = (Soft, refl)
irq_numbered (suc (suc n)) l = absurd (omega arith)

-- ---- the ends of the links by one mark
abbrev use_of : Mark → Irq × Bool
use_of Used = (Hard, false)
use_of (UsedIn irq read) = (irq, read)
use_of (Enabled irq read) = (irq, read)

abbrev form : Mark → ℕ
form Used = 0
form (UsedIn irq read) = 1
form (Enabled irq read) = 2

abbrev key_of : Fact → ℕ
key_of (Dependency from to kind) = from
key_of (Marked key mark) = key

abbrev mark_of : Fact → Mark
mark_of (Dependency from to kind) = Used
mark_of (Marked key mark) = mark

abbrev Is : ℕ → Mark → Fact → Type 0
Is key mark x = x ≡ Marked key mark

leaves_by : (key : ℕ) (irq : Irq) (read : Bool) (irq' : Irq) (q : ℕ) →
    LinkLeaves (Is key (Enabled irq read)) irq' q ↔ ((irq' ≡ irq) × LeavesFrom key read q)
leaves_by key irq read irq' q = (
  (λ (b, s, e, leaves). (
    ap (λ x. (use_of (mark_of x)).0) e,
    subst (λ (x : Fact). LeavesFrom (key_of x) (use_of (mark_of x)).1 q) e leaves,
  )),
  (λ (same, leaves). (key, read, (λ i. Marked key (Enabled (same i) read)), leaves)),
)

none_arrives : (key : ℕ) (mark : Mark) → ¬ (form mark ≡ 1) → (irq : Irq) (p : ℕ) → LinkArrives (Is key mark) irq p → ⊥
none_arrives key mark other irq p (a, r, e, at) = other (sym (ap (λ x. form (mark_of x)) e))

none_leaves : (key : ℕ) (mark : Mark) → ¬ (form mark ≡ 2) → (irq : Irq) (q : ℕ) → LinkLeaves (Is key mark) irq q → ⊥
none_leaves key mark other irq q (b, s, e, leaves) = other (sym (ap (λ x. form (mark_of x)) e))

-- ---- the ends with one more mark
unchanged : (b : Bool) (P : Type 0) → ¬ P → (b ≡ true) ↔ ((b ≡ true) ⊎ P)
unchanged b P never = ((λ h. inl h), (λ h. elim h [ inl o ↦ o | inr n ↦ absurd (never n) ]))

pub TakesMark-used : (ends : Ends) (key : ℕ) → TakesMark ends ends key Used
TakesMark-used ends key = record {
  arrives = λ irq p. unchanged (reaches ends.arrivals (irq_number irq) p) (LinkArrives (Is key Used) irq p) (none_arrives key Used (λ e. omega arith) irq p);
  leaves = λ irq q. unchanged (reaches ends.departures (irq_number irq) q) (LinkLeaves (Is key Used) irq q) (none_leaves key Used (λ e. omega arith) irq q);
}

-- one row of a table with more bits
module _ (rows : List (List ℕ)) (irq : Irq) (within : irq_number irq < length rows) (row : List ℕ) (More : ℕ → Type 0)
    (grows : (p : ℕ) → (has_bit row p ≡ true) ↔ ((reaches rows (irq_number irq) p ≡ true) ⊎ More p)) where
  row_set : (irq' : Irq) (p : ℕ) → (reaches (set rows (irq_number irq) row) (irq_number irq') p ≡ true) ↔
      ((reaches rows (irq_number irq') p ≡ true) ⊎ ((irq' ≡ irq) × More p))
  row_set irq' p = elim (cases_eq (irq_number irq') (irq_number irq)) [
    | inl e ↦ (
      (λ h. elim ((grows p).0 (same e h)) [
        | inl o ↦ inl (subst (λ n. reaches rows n p ≡ true) (sym e) o)
        | inr m ↦ inr (irq_number-same irq' irq e, m)
      ]),
      (λ h. back e ((grows p).1 (elim h [
        | inl o ↦ inl (subst (λ n. reaches rows n p ≡ true) e o)
        | inr m ↦ inr m.1
      ]))),
    )
    | inr ne ↦ (
      (λ h. inl (ap (λ r. has_bit r p) (sym (other ne)) ∙ h)),
      (λ h. ap (λ r. has_bit r p) (other ne) ∙ elim h [ inl o ↦ o | inr m ↦ absurd (ne (ap irq_number m.0)) ]),
    )
  ]
    where
      here : irq_number irq' ≡ irq_number irq → get_or (set rows (irq_number irq) row) (irq_number irq') [] ≡ row
      here e = ap (λ n. get_or (set rows (irq_number irq) row) n []) e ∙ get_or-set_same rows (irq_number irq) row [] within

      same : irq_number irq' ≡ irq_number irq → reaches (set rows (irq_number irq) row) (irq_number irq') p ≡ true → has_bit row p ≡ true
      same e h = ap (λ r. has_bit r p) (sym (here e)) ∙ h

      back : irq_number irq' ≡ irq_number irq → has_bit row p ≡ true → reaches (set rows (irq_number irq) row) (irq_number irq') p ≡ true
      back e h = ap (λ r. has_bit r p) (here e) ∙ h

      other : ¬ (irq_number irq' ≡ irq_number irq) → get_or (set rows (irq_number irq) row) (irq_number irq') [] ≡ get_or rows (irq_number irq') []
      other ne = get_or-set_other rows (irq_number irq) (irq_number irq') row [] ne

module _ (ends : Ends) (key : ℕ) (irq : Irq) (read : Bool) (row : List ℕ) where
  pub TakesMark-enabled : irq_number irq < length ends.departures →
      ((q : ℕ) → (has_bit row q ≡ true) ↔ ((reaches ends.departures (irq_number irq) q ≡ true) ⊎ LeavesFrom key read q)) →
      TakesMark ends (record { arrivals = ends.arrivals; departures = set ends.departures (irq_number irq) row }) key (Enabled irq read)
  TakesMark-enabled within grows = record {
    arrives = λ irq' p. unchanged (reaches ends.arrivals (irq_number irq') p) (LinkArrives (Is key (Enabled irq read)) irq' p) (none_arrives key (Enabled irq read) (λ e. omega arith) irq' p);
    leaves = λ irq' q.
        let by = leaves_by key irq read irq' q in
        let step = row_set ends.departures irq within row (LeavesFrom key read) grows irq' q in (
          (λ h. elim (step.0 h) [ inl o ↦ inl o | inr n ↦ inr (by.1 n) ]),
          (λ h. step.1 (elim h [ inl o ↦ inl o | inr n ↦ inr (by.0 n) ])),
        );
  }
