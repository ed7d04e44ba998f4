-- The facts under a renaming of keys are what the facts say with other keys.
use Rattle.ld_facts.proofs.Names.{[], ◌<◌, ◌∙◌, ◌∷◌, ◌≡◌, ChainHas, ChainParts, Contains, Dependency, Fact, Image, IsTrue, List, Marked, None, Option, RenamedFactsAreTheImage, Some, TraceFactsAreTheChains, TraceHas, TraceHasBy, TracesHaveBy, ap, arith, chain_by, fact_by, get_or-map, inl, inr, length-map, lock_by, map, marks_opened, marks_taken, may_wait, none-some, refl, same_Some, subst, sym, ℕ}
use Rattle.std.specs.Prelude.{option_map}
use Rattle.ld_task.specs.TraceChains.{chains}
use Rattle.ld_task.specs.Kinds.{kind_between}
use Rattle.ld_facts.specs.Laws.Lists.{Any-member, Contains-cases, Contains-head, Contains-later}

-- ---- lists and options
Contains-map : {X Y : Type 0} (f : X → Y) (xs : List X) (x : X) → Contains xs x → Contains (map f xs) (f x)
Contains-map f xs x (k, l, e) = (k, subst (λ n. k < n) (sym (length-map xs f)) l, get_or-map f xs k x (f x) l ∙ ap f e)

Contains-unmap : {X Y : Type 0} (f : X → Y) (xs : List X) (y : Y) → Contains (map f xs) y → (x : X) × Contains xs x × (f x ≡ y)
Contains-unmap f [] y (k, l, e) = absurd (omega arith)
Contains-unmap f (x ∷ xs) y c = elim (Contains-cases (f x) (map f xs) y c) [
  | inl here ↦ (x, Contains-head x xs, here)
  | inr later ↦ let (z, among, is) = Contains-unmap f xs y later in (z, Contains-later x xs z among, is)
]

Some-unmap : {X Y : Type 0} (f : X → Y) (o : Option X) (y : Y) → option_map f o ≡ Some y → (x : X) × (o ≡ Some x) × (f x ≡ y)
Some-unmap f None y e = absurd (none-some y e)
Some-unmap f (Some x) y e = (x, refl, same_Some (f x) y e)

None-unmap : {X Y : Type 0} (f : X → Y) (o : Option X) → option_map f o ≡ None → o ≡ None
None-unmap f None e = refl
None-unmap f (Some x) e = absurd (none-some (f x) (sym e))

-- ---- one chain
module _ (rename : ℕ → ℕ) (c : ChainParts) where
  renamed_has : (x : Fact) → ChainHas c x → ChainHas (chain_by rename c) (fact_by rename x)
  renamed_has (Dependency from to kind) h = record {
    old = lock_by rename h.old;
    new = lock_by rename h.new;
    frame = h.frame;
    is_held = Contains-map (lock_by rename) c.held_locks h.old h.is_held;
    is_new = ap (option_map (λ new. (lock_by rename new.0, new.1))) h.is_new;
    waits = h.waits;
    from_is = ap rename h.from_is;
    to_is = ap rename h.to_is;
    how = h.how;
  }
  renamed_has (Marked key mark) (inl h) = inl record {
    new = lock_by rename h.new;
    frame = h.frame;
    is_new = ap (option_map (λ new. (lock_by rename new.0, new.1))) h.is_new;
    key_is = ap rename h.key_is;
    gives = h.gives;
  }
  renamed_has (Marked key mark) (inr h) = inr record {
    old = lock_by rename h.old;
    is_opening = ap (option_map (λ new. (lock_by rename new.0, new.1))) h.is_opening;
    is_held = Contains-map (lock_by rename) c.held_locks h.old h.is_held;
    key_is = ap rename h.key_is;
    gives = h.gives;
  }

  has_unrenamed : (x : Fact) → ChainHas (chain_by rename c) x → Image rename (ChainHas c) x
  has_unrenamed (Dependency from to kind) h =
      let (old, held, was) = Contains-unmap (lock_by rename) c.held_locks h.old h.is_held in
      let (new, taken, now) = Some-unmap (λ new. (lock_by rename new.0, new.1)) c.new_lock (h.new, h.frame) h.is_new in
      let modes : lock_by rename new.0 ≡ h.new = ap (λ p. p.0) now in (
        Dependency old.key new.0.key (kind_between old.mode new.0.mode),
        record {
          old = old;
          new = new.0;
          frame = new.1;
          is_held = held;
          is_new = taken;
          waits = subst (λ l. IsTrue (may_wait l.mode)) (sym modes) h.waits;
          from_is = refl;
          to_is = refl;
          how = refl;
        },
        ap (λ a. Dependency a (rename new.0.key) (kind_between old.mode new.0.mode)) (ap (λ l. l.key) was ∙ sym h.from_is)
            ∙ ap (λ b. Dependency from b (kind_between old.mode new.0.mode)) (ap (λ l. l.key) modes ∙ sym h.to_is)
            ∙ ap (Dependency from to) (ap (λ l. kind_between l.mode new.0.mode) was ∙ ap (λ l. kind_between h.old.mode l.mode) modes ∙ sym h.how),
      )
  has_unrenamed (Marked key mark) (inl h) =
      let (new, taken, now) = Some-unmap (λ new. (lock_by rename new.0, new.1)) c.new_lock (h.new, h.frame) h.is_new in (
        Marked new.0.key mark,
        inl record {
          new = new.0;
          frame = new.1;
          is_new = taken;
          key_is = refl;
          gives = subst (λ p. IsTrue (marks_taken p.0.mode p.1 c.flags mark)) (sym now) h.gives;
        },
        ap (λ k. Marked k mark) (ap (λ p. p.0.key) now ∙ sym h.key_is),
      )
  has_unrenamed (Marked key mark) (inr h) =
      let (old, held, was) = Contains-unmap (lock_by rename) c.held_locks h.old h.is_held in (
        Marked old.key mark,
        inr record {
          old = old;
          is_opening = None-unmap (λ new. (lock_by rename new.0, new.1)) c.new_lock h.is_opening;
          is_held = held;
          key_is = refl;
          gives = subst (λ l. IsTrue (marks_opened l.mode c.flags mark)) (sym was) h.gives;
        },
        ap (λ k. Marked k mark) (ap (λ l. l.key) was ∙ sym h.key_is),
      )

-- ---- all traces
pub renamed_facts_are_the_image : TraceFactsAreTheChains → RenamedFactsAreTheImage
renamed_facts_are_the_image are rename traces x = (
  (λ h.
      let (t, is_trace, has) = (Any-member (λ t. TraceHasBy rename t x) traces).0 h in
      let (c, is_chain, by) = (Any-member (λ c. ChainHas (chain_by rename c) x) (chains t)).0 has in
      let (y, given, is) = has_unrenamed rename c x by in (
        y,
        (Any-member (λ t. TraceHas t y) traces).1 (t, is_trace, (are t y).1 ((Any-member (λ c. ChainHas c y) (chains t)).1 (c, is_chain, given))),
        is,
      )),
  (λ (y, h, is).
      let (t, is_trace, has) = (Any-member (λ t. TraceHas t y) traces).0 h in
      let (c, is_chain, by) = (Any-member (λ c. ChainHas c y) (chains t)).0 ((are t y).0 has) in
      subst (TracesHaveBy rename traces) is ((Any-member (λ t. TraceHasBy rename t (fact_by rename y)) traces).1 (
        t,
        is_trace,
        (Any-member (λ c. ChainHas (chain_by rename c) (fact_by rename y)) (chains t)).1 (c, is_chain, renamed_has rename c y by),
      ))),
)
