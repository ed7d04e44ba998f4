use Rattle.ld_explain.proofs.Names.{◌+◌, ◌↔◌, ◌∙◌, ◌≡◌, Among, AreGuards, AsksOrder, Contains, Event, FactParts, GuardsAt, HasFact, List, PutsGuard, SeenFrom, Some, ap, chain, key_by, refl, slice_get, slot_held, slot_origin, unwrap_or, view_of, ℕ}
use Rattle.ld_explain.proofs.Gates.{gates-guard}
use Rattle.ld_explain.proofs.Passing.{guards_mark, guards_take}
use Rattle.ld_explain.proofs.Slots.{after_ok}
use Rattle.ld_explain.proofs.guards.Guards.add_fact.Goals as goal

pub returns-in-Dependency-clause-kept : goal.returns-in-Dependency-clause-kept
returns-in-Dependency-clause-kept c =
    let follows :
    PutsGuard c.args.self.now c.put.new.self c.args.fact c.args.trace c.gates_before.result.items →
    ((traces : List (List Event)) (asked : FactParts) (t : List Event) (place : ℕ) → slice_get traces c.args.trace ≡ Some t →
    chain t place ≡ Some c.args.chain.now → HasFact asked c.args.fact →
    AreGuards (view_of c.args.naming traces) (Among (AsksOrder asked) (SeenFrom (view_of c.args.naming traces) t c.args.trace place c.args.chain.now (c.args.n + 1))) c.args.self.now →
    AreGuards (view_of c.args.naming traces) (Among (AsksOrder asked) (SeenFrom (view_of c.args.naming traces) t c.args.trace place c.args.chain.now c.args.n)) c.put.new.self) =
    λ puts traces asked t place here is is_asked before.
    let held : c.unwrap_or-held.result ≡ unwrap_or (slot_held c.args.chain.now c.args.n) 0 =
    c.unwrap_or-held.ensures ∙ ap (λ o. unwrap_or o 0) c.lock_of_slot.ensures in
    let guard : (key : ℕ) → Contains c.gates_before.result.items key ↔ GuardsAt (view_of c.args.naming traces) key (slot_origin t c.args.trace place c.args.chain.now c.args.n) =
    λ key.
    let r = gates-guard (key_by c.args.naming) t place c.args.chain.now is traces c.args.trace here c.args.n c.requires.within key
    (slot_held c.args.chain.now c.args.n) refl c.unwrap_or-held.result
    (λ h e. held ∙ ap (λ o. unwrap_or o 0) e) (λ e. held ∙ ap (λ o. unwrap_or o 0) e) in
    let before_is = c.gates_before.ensures key in
    (λ h. r.0 (before_is.0 h), λ h. before_is.1 (r.1 h)) in
    guards_take (view_of c.args.naming traces) asked t c.args.trace place c.args.chain.now c.args.n c.args.fact c.requires.within c.requires.slot
    (rw c.in-Dependency.is (rw c.in-Dependency.is at is_asked)) c.args.self.now c.put.new.self c.gates_before.result.items puts guard before in
    after_ok _ _ c.put.result follows c.put.ensures

pub returns-in-Marked-clause-kept : goal.returns-in-Marked-clause-kept
returns-in-Marked-clause-kept c traces asked t place here is is_asked before =
    guards_mark (view_of c.args.naming traces) asked t c.args.trace place c.args.chain.now c.args.n _ _
    (c.requires.slot ∙ ap Some c.in-Marked.is) c.args.self.now before
