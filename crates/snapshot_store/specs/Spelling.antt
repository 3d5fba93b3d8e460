-- The one spelling of a state, as bytes. Numbers have their high byte first.
use Rattle.std.specs.Prelude.{ℕ, Bool, List, [], ◌∷◌, ◌++◌, length, Option, Some, None}
use Rattle.std.specs.Int.{w16, w32, w64, to_be_bytes}
use Rattle.std.specs.List.{flat_map}
use Rattle.ledger_terms.specs.declared.active_row.ActiveRow.{ActiveRow}
use Rattle.canton_model.specs.declared.response.Response.{Response}
use Rattle.wire_form.specs.Spelling.{spell_name, spell_truth, spell_instance}
use Rattle.message_bytes.specs.Spelling.{spell_participant, spell_path, spell_response, spell_verdict}
use Rattle.node_state.specs.declared.item.Item.{Item}
use Rattle.node_state.specs.declared.item_what.ItemWhat.{ItemWhat}
use Rattle.node_state.specs.declared.item_what.ItemWhat.TheVariants.{Nothing, Request, Verdict}
use Rattle.node_state.specs.declared.node_state.NodeState.{NodeState}

-- The bytes of a list: four bytes of count, and then those of each item, by `spell`.
abbrev pub spell_counted : {A : Type 0} → (A → List ℕ) → List A → List ℕ
spell_counted spell xs = to_be_bytes w32 (length xs) ++ flat_map spell xs

-- The bytes of a row of an active contract: eight for the place of creation, the salt and the instance. Its id is made of the last two.
abbrev pub spell_row : ActiveRow → List ℕ
spell_row row = to_be_bytes w64 row.created_at ++ row.known.salt ++ spell_instance row.known.instance

-- The bytes of the rows of active contracts, behind their count.
unfoldable pub spell_rows : List ActiveRow → List ℕ
spell_rows rows = spell_counted spell_row rows

-- The bytes of an id, which are its own 32.
abbrev pub spell_id : List ℕ → List ℕ
spell_id id = id

-- The bytes of ids, behind their count.
unfoldable pub spell_ids : List (List ℕ) → List ℕ
spell_ids ids = spell_counted spell_id ids

-- The bytes of paths of views: two bytes of count, and then those of each path.
unfoldable pub spell_paths : List (List ℕ) → List ℕ
spell_paths paths = to_be_bytes w16 (length paths) ++ flat_map spell_path paths

-- The bytes of an envelope: 0 where there is none, and else 1, four bytes of length, and its own.
unfoldable pub spell_envelope : Option (List ℕ) → List ℕ
spell_envelope None = 0 ∷ []
spell_envelope (Some bytes) = 1 ∷ (to_be_bytes w32 (length bytes) ++ bytes)

-- The bytes of what an item brings: 0 for nothing, 1 with the parts of a request, 2 with a verdict.
unfoldable pub spell_what : ItemWhat → List ℕ
spell_what Nothing = 0 ∷ []
spell_what (Request sender command root seen confirmed envelope) =
    1 ∷ (spell_participant sender ++ spell_name command ++ root ++ spell_paths seen ++ spell_paths confirmed ++ spell_envelope envelope)
spell_what (Verdict verdict) = 2 ∷ spell_verdict verdict

-- The bytes of an item of an inbox: eight of time, and what it brings.
abbrev pub spell_item : Item → List ℕ
spell_item item = to_be_bytes w64 item.time ++ spell_what item.what

-- The bytes of the items of an inbox, behind their count.
unfoldable pub spell_items : List Item → List ℕ
spell_items items = spell_counted spell_item items

-- The bytes of responses, behind their count.
unfoldable pub spell_responses : List Response → List ℕ
spell_responses responses = spell_counted spell_response responses

-- The eight bytes of a place.
abbrev pub spell_place : ℕ → List ℕ
spell_place place = to_be_bytes w64 place

-- The bytes of places, behind their count.
unfoldable pub spell_places : List ℕ → List ℕ
spell_places places = spell_counted spell_place places

-- The first two bytes of a state: that of the version, 1, and that of the participant `me` whose state it is.
unfoldable pub spell_owner : ℕ → List ℕ
spell_owner me = 1 ∷ (me ∷ [])

-- The bytes of a state behind its first two: eight for the base, eight for the time of the entry before it, in microseconds, and one for whether the
-- participant is paused.
unfoldable pub spell_position : (base base_time : ℕ) → Bool → List ℕ
spell_position base base_time paused = to_be_bytes w64 base ++ to_be_bytes w64 base_time ++ spell_truth paused

-- The first 19 bytes of a state, in front of its lists.
unfoldable pub spell_head : NodeState → List ℕ
spell_head state = spell_owner state.me ++ spell_position state.base state.base_time state.paused

-- The bytes of a state.
unfoldable pub spell_state : NodeState → List ℕ
spell_state state =
    spell_head state ++ spell_rows state.active ++ spell_ids state.gone ++ spell_items state.items ++ spell_responses state.outbox
    ++ spell_places state.done
