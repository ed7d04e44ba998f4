-- Words of this crate that its clauses cite: each brought in once.
pub use Rattle.ld_text.specs.ChainLines.{chain_line, chains_text, flags_text, taken_text}
pub use Rattle.ld_text.specs.Explanation.{block_text, comes_line, deadlock_text, dependency_text, does_text, event_of, explanation_text, gate_lines, gate_note, head_text, holds_line, listed_text, lock_of, note_line, notes_text, occurrence_text, only_notes, order_line, origins_text, sources_of, use_lines, waits_line, waits_text, walk_text, while_text}
pub use Rattle.ld_text.specs.Findings.{SaysFindings}
pub use Rattle.ld_text.specs.Groups.{GrowsBy, InSequence, InTurn}
pub use Rattle.ld_text.specs.Inside.Joined.{AreJoinedKeys, Leads}
pub use Rattle.ld_text.specs.Inside.Tokens.{Adds}
pub use Rattle.ld_text.specs.Inside.Turning.{TellsTurned, starts_before}
pub use Rattle.ld_text.specs.Json.{circle_words, dependency_members, double_words, event_members, finding_line, finding_members, held_members, inversion_words, json_text, keys_member, lines_member, list_member, notes_member, number_member, object, object_member, occurrence_members, order_object, orders_member, place_members, place_object, places_members, since_member, taken_mode, text_member, traces_member, use_members}
pub use Rattle.ld_text.specs.Names.{numbers_below}
pub use Rattle.ld_text.specs.Order.{IsKeyOrder, name_cmp}
pub use Rattle.ld_text.specs.Output.{AppendsBeginning, PutsBehind}
pub use Rattle.ld_text.specs.Picture.{AreJoined, IsFoundArrow, IsFoundKey, IsNode, IsPicture, ShowsEdge, ShowsKey, arrow_text, double_links, end_text, escaped, inversion_links, link_line, quoted_key}
pub use Rattle.ld_text.specs.Report.{AreTotals, IsReport, IsUsageCharacter, IsUsageLine, ShowsBecause, circle_line, clean_line, double_line, findings, forms, inversion_line, member_text, total_line, usage_character}
pub use Rattle.ld_text.specs.Verdicts.{AreVerdictsOf, KeepsCircles, between_members, between_text, count_members, dependency_object, end_line, end_members, gate_object, in_order, kept_object, lock_members, lock_sources, nested_text, note_members, noted_members, only_member, ranked, seen_text, taken_members, type_sources, verdict_block, verdict_json, verdict_line, verdict_lines, verdict_members, verdicts_text}
pub use Rattle.ld_text.specs.Words.{file_at, flag_text, frame_text, key_text, kind_text}
pub use Rattle.ld_text.specs.WriteFaults.{StopsWriting, write_code_of}
pub use Rattle.ld_text.specs.declared.chains_text.TheConstants.{LINE_BYTES}
