-- Names that several of this crate's proofs use, each brought in once.
pub use Rattle.std.proofs.Common.{[], ◌++◌, ◌+◌, ◌-◌, ◌<◌, ◌==◌, ◌∙◌, ◌∷◌, ◌≡◌, ◌≤◌, All, Bool, Err, IfErr, IfSome, List, None, Ok, OnOk, Option, Result, Some, ap, append_assoc, arith, drop, false, get_or, if◌then◌else◌, is_ok, length, length-append, min, option_map, refl, suc, sym, take, true, ℕ}
pub use Rattle.std.proofs.Math.Seq.{take-add, take-append_seam, take-length}
pub use Rattle.std.proofs.lemmas.List.{append-nil, append_cancel_left, length-take, take-append-drop, take-append-le, take_min}
pub use Rattle.std.proofs.lemmas.List.Elements.{All-append, All-cons, All-nil, All-push, All-set}
pub use Rattle.std.proofs.lemmas.Result.{IfErr-weaker, IfOk-weaker, on_ok_weaker}
pub use Rattle.ld_read.specs.Inside.Ahead.{AreFrom, AreParts, IsAhead, IsFrom, IsPart}
pub use Rattle.ld_read.specs.Reading.{IsRead, StopsAfter}
pub use Rattle.ld_trace.specs.Events.{KeyIsBelow, KeysBelow}
pub use Rattle.ld_trace.specs.Names.{Name}
pub use Rattle.ld_trace.specs.Reading.{ReadsTo, StopsAt}
pub use Rattle.ld_trace.specs.declared.event.Event.{Event}
