-- Which traces a refusal names, and what its line leaves.
use Rattle.lockdep.proofs.Names.{[], ◌<◌, ◌==◌, ◌∷◌, ◌≡◌, Appends, AppendsBeginning, BadCommandLine, Bor, CannotOpen, Contains, Err, IfErr, IsErr, IsErrAnd, IsReadingRefusal, List, Memory, Name, None, Ok, Option, Output, Reading, Refusal, Result, Some, StopsReading, Text, ap, append-nil, arith, codes, inl, inr, length, map, refl, slice_get, slice_index_or, subst, suc, sym, true, zero, ℕ}
use Rattle.lockdep.specs.declared.refusal.Refusal.TheVariants.{Step, History, Run, Condensing}

-- a file of the list is among their names
pub named_at : (files : List (Bor Text)) (i : ℕ) (d : Bor Text) → i < length files → Contains (map (λ file. file.now) files) (slice_index_or files i d).now
named_at [] i d within = absurd (omega arith)
named_at (file ∷ files) zero d within = (0, omega arith, refl)
named_at (file ∷ files) (suc i) d within =
    let (k, k_within, is) = named_at files i d (omega arith) in (suc k, omega (arith, k_within), is)

-- and stands there at its place
pub names_at : (files : List (Bor Text)) (i : ℕ) (d : Bor Text) → i < length files → slice_get (map (λ file. file.now) files) i ≡ Some (slice_index_or files i d).now
names_at [] i d within = absurd (omega arith)
names_at (file ∷ files) zero d within = refl
names_at (file ∷ files) (suc i) d within = names_at files i d (omega arith)

-- no files have no names
pub none_named : (files : List (Bor Text)) → true ≡ (length files == 0) → map (λ file. file.now) files ≡ []
none_named [] none = refl
none_named (file ∷ files) none = grind arith

-- a trace that is refused is that of the one file
pub StopsReading-one : (file : Text) (room : ℕ) (names : List Name) (bytes : Option (List ℕ)) (refusal : Refusal) → IsReadingRefusal file room names bytes refusal → StopsReading room (file ∷ []) None refusal
StopsReading-one file room names bytes BadCommandLine h = absurd h
StopsReading-one file room names bytes (CannotOpen named) h = absurd h
StopsReading-one file room names bytes Output h = absurd h
StopsReading-one file room names bytes Memory h = absurd h
StopsReading-one file room names bytes (Reading named fault) (is, why) = inl (0, omega arith, sym is)
StopsReading-one file room names bytes (Step named at fault) h = absurd h
StopsReading-one file room names bytes (History named refusal) h = absurd h
StopsReading-one file room names bytes (Run fault) h = absurd h
StopsReading-one file room names bytes (Condensing fault) h = absurd h

-- the one file is among several, so what is it is among them
among_several : (file name : Text) (files : List Text) → Contains files file → Contains (file ∷ []) name → Contains files name
among_several file name files among (zero, within, is) = subst (λ (n : Text). Contains files n) is among
among_several file name files among (suc k, within, is) = absurd (omega arith)

-- what is said of one file is said of several with it among them
pub StopsReading-among : (room : ℕ) (file : Text) (files : List Text) (input : Option (List ℕ)) (refusal : Refusal) → Contains files file → StopsReading room (file ∷ []) None refusal → StopsReading room files input refusal
StopsReading-among room file files input BadCommandLine among h = absurd h
StopsReading-among room file files input (CannotOpen named) among h = among_several file named.now files among h
StopsReading-among room file files input Output among h = absurd h
StopsReading-among room file files input Memory among h = tt
StopsReading-among room file files input (Reading named fault) among (inl h) = inl (among_several file named.now files among h)
StopsReading-among room file files input (Reading named fault) among (inr (none, h)) = absurd (cc)
StopsReading-among room file files input (Step named at fault) among h = absurd h
StopsReading-among room file files input (History named refusal) among h = absurd h
StopsReading-among room file files input (Run fault) among h = absurd h
StopsReading-among room file files input (Condensing fault) among h = absurd h

-- without files it is standard input
pub StopsReading-input : (room : ℕ) (files : List Text) (input : Option (List ℕ)) (refusal : Refusal) → files ≡ [] → IsReadingRefusal (codes "stdin") room [] input refusal → StopsReading room files input refusal
StopsReading-input room files input BadCommandLine none h = absurd h
StopsReading-input room files input (CannotOpen named) none h = absurd h
StopsReading-input room files input Output none h = absurd h
StopsReading-input room files input Memory none h = tt
StopsReading-input room files input (Reading named fault) none h = inr (none, h)
StopsReading-input room files input (Step named at fault) none h = absurd h
StopsReading-input room files input (History named refusal) none h = absurd h
StopsReading-input room files input (Run fault) none h = absurd h
StopsReading-input room files input (Condensing fault) none h = absurd h

-- what holds of the error that is returned
pub IfErr-passed : {T E : Type 0} (r : Result T E) (e : E) (P : E → Type 0) → IsErr r × IsErrAnd r (λ x. x ≡ e) → P e → IfErr r P
IfErr-passed (Ok x) e P is p = tt
IfErr-passed (Err x) e P is p = subst P (sym is.1) p
