-- `levels_answer::encode::encode_response` meets its contract. Assumes nothing.
use Rattle.levels_answer.proofs.Prelude.{arith, appended_wrote, encodes_bytes, encodes_nothing, encodes_listing}
use Rattle.levels_spec.specs.Response.{range_text}
use Rattle.levels_spec.specs.inner.Responses.{text_of}
use Rattle.levels_answer.proofs.encode.encode_response.Goals as goal

pub returns-in-Nothing : goal.returns-in-Nothing
returns-in-Nothing c = encodes_nothing _ _ _ c.in-Nothing.is

pub returns-in-Refused : goal.returns-in-Refused
unfolding text_of
returns-in-Refused c = encodes_bytes _ _ c.in-Refused.is (rw c.into.ensures at c.refuse.ensures)

pub returns-in-Merged : goal.returns-in-Merged
unfolding text_of
returns-in-Merged c = encodes_bytes _ _ c.in-Merged.is c.write_line.ensures

pub returns-in-NoRange : goal.returns-in-NoRange
unfolding text_of range_text
returns-in-NoRange c =
    encodes_bytes _ _ c.in-NoRange.is (appended_wrote (omega (arith, c.requires, c.put_bytes.auto.text)) c.put_bytes.ensures)

pub returns-in-Range : goal.returns-in-Range
unfolding text_of
returns-in-Range c = encodes_bytes _ _ c.in-Range.is c.write_line-in-Range.ensures

pub returns-in-Version : goal.returns-in-Version
unfolding text_of
returns-in-Version c = encodes_bytes _ _ c.in-Version.is c.write_line-in-Version.ensures

pub returns-in-Listing : goal.returns-in-Listing
returns-in-Listing c = encodes_listing _ _ _ c.in-Listing.is c.list_table.ensures
