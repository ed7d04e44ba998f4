-- Names that several of this crate's proofs use, each brought in once.
pub use Rattle.std.proofs.Common.{[], ◌&&◌, ◌*◌, ◌++◌, ◌+◌, ◌-◌, ◌<◌, ◌==◌, ◌||◌, ◌∙◌, ◌∷◌, ◌≡◌, ◌≢◌, ◌≤◌, ◌⊎◌, All, Bool, Bor, Err, IfSome, IsSomeAnd, List, MatchOption, None, Ok, Option, Result, Some, ap, append_assoc, arith, codes, cond, drop, eq-eqb, false, get_or, get_or-drop, if◌then◌else◌, inl, inr, length, length-append, length-drop, map, nat_le, nat_lt, ne_eqb, not, option_map, position, refl, rules, slice_get, slice_index, subst, suc, sum_by, sym, take, true, true≢false, unwrap_or, zero, ℕ}
pub use Rattle.std.proofs.Math.Seq.{take-append_seam, take-length, take-suc}
pub use Rattle.std.proofs.lemmas.Bool.{and_from, and_parts, cases_Bool, cases_eq, cases_lt, eqb-true, or_left, or_parts, or_right}
pub use Rattle.std.proofs.lemmas.Bool.Decides.{Decides-eqb, nat_tests}
pub use Rattle.std.proofs.lemmas.List.{append-nil, length-map, map-append, take-append-le, take-map, take_all}
pub use Rattle.std.proofs.lemmas.List.Elements.{All-cons, All-head, All-nil, All-push, All-tail}
pub use Rattle.std.proofs.lemmas.List.Folds.{list_all-append, list_any-append}
pub use Rattle.std.proofs.lemmas.List.Sums.{AllPass-from_list_all, prefix_len-le-length}
pub use Rattle.std.proofs.lemmas.Option.{IfSome_then, get_or_from_slice_get, slice_get-get_or, slice_get_past}
pub use Rattle.std.proofs.lemmas.Result.{IfErr-weaker, IfOk-weaker, err_from_is_err_and, on_ok_weaker}
pub use Rattle.std.proofs.lemmas.Slice.Eq.{bytes_eq-Decides}
pub use Rattle.std.proofs.lemmas.Str.{IsUtf8-from_ascii, len_utf8_ascii}
pub use Rattle.std.specs.List.{AllByRecursion, flat_map, list_all, list_any, position_or_len}
pub use Rattle.std.specs.Path.{rfind_below}
pub use Rattle.std.specs.Prelude.{⊤}
pub use Rattle.std.specs.Str.{IsUtf8, bytes_eq}
pub use Rattle.csv.specs.Machine.{after_end, ends_at_end, ends_with, field_after, fields_after, in_field, is_end, start_field, start_record, step}
pub use Rattle.csv.specs.Reading.{ReadRecord, default_config, is_bom, reader_state, records, records_next, source_of}
pub use Rattle.csv.specs.Records.{fields_of}
pub use Rattle.csv.specs.Writing.{default_writer, field_text, read_back, row_text, text_written, with_flexible}
pub use Rattle.csv.specs.declared.parser.State.{State}
pub use Rattle.csv.specs.declared.reader.Reader.{Reader}
pub use Rattle.indexmap.specs.IndexSet.{IndexSet, IsUnique, insert_key}
pub use Rattle.ld_trace.specs.Classes.{before_at, class_by, class_of, name_by, numbers_at, some_or, text_at}
pub use Rattle.ld_trace.specs.Events.{KeyIsBelow, KeysBelow, is_try}
pub use Rattle.ld_trace.specs.Inside.Progress.{AreRead, AreRefused, AreTaken, Gives, HasGiven, HasTaken, IsEventOf, IsFresh, ReadsPlain, Returns, TakesLine, TakesOn}
pub use Rattle.ld_trace.specs.Inside.Renumbered.{event_with}
pub use Rattle.ld_trace.specs.Inside.Stored.{name_of, names_of}
pub use Rattle.ld_trace.specs.Laws.{AreOfTable, NewTablesHaveRoom, RenumberingsStay, TextsReadBack, TextsReadThemselves, TracesReadAlike, lines_at}
pub use Rattle.ld_trace.specs.Lines.{Line, Record, acquire_line, enters, event_of, gives_back, giving_back, irq_line, irq_of, is_over, leave_line, leaves, mode_of, name_of_fields, release_line, sub_of, takes, taking, try_mode_of, turns_off, turns_on, version_named, with_line}
pub use Rattle.ld_trace.specs.Names.{AreNumbered, Name, Table, are_visible, is_class_name, is_known, is_name, is_one_too_many, is_same, place_of, with_name}
pub use Rattle.ld_trace.specs.Pieces.{AreLines, HeadersRead, PiecesJoin, header_line}
pub use Rattle.ld_trace.specs.Reading.{ReadsTo, StopsAt, header_fault, line_event, line_fault, names_before, record_fault, records_of, version_fault, version_in, version_of_trace, with_read}
pub use Rattle.ld_trace.specs.TakingIn.{Leads, Within, all_moved, moved}
pub use Rattle.ld_trace.specs.Writing.{event_text, header_of, line_at, mode_word, name_at, record_of, record_text, sub_word, version_for}
pub use Rattle.ld_trace.specs.declared.event.Event.{Event}
pub use Rattle.ld_trace.specs.declared.event.Event.TheVariants.{Acquire, Enter, Leave, Release, TurnOff, TurnOn}
pub use Rattle.ld_trace.specs.declared.event.Irq.{Irq}
pub use Rattle.ld_trace.specs.declared.event.Mode.{Mode}
pub use Rattle.ld_trace.specs.declared.key_id.TheConstants.{MAX_KEYS}
pub use Rattle.ld_trace.specs.declared.key_table.TheConstants.{MAX_SUB}
pub use Rattle.ld_trace.specs.declared.raw_trace.TheConstants.{MAX_EVENTS}
pub use Rattle.ld_trace.specs.declared.stored_name.TheConstants.{MAX_NAME}
pub use Rattle.ld_trace.specs.declared.trace_fault.TraceFaultKind.{TraceFaultKind}
pub use Rattle.ld_trace.specs.declared.trace_fault.TraceFaultKind.TheVariants.{BadName, BadRecord, BadSub, NoHeader, TooManyRecords}
pub use Rattle.ld_trace.specs.declared.version.Version.{Version}
pub use Rattle.ld_trace.specs.declared.version.Version.TheVariants.{One, Two}
