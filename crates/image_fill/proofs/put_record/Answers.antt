-- `put_record` meets its contract. Assumes nothing.
use Rattle.image_fill.proofs.FillLaws.{put_one}
use Rattle.image_fill.proofs.put_record.Goals as goal

pub returns : goal.returns
returns c =
    put_one _ _ _ _ _ _ _ _ c.word_at-d.ensures c.coordinate_at.ensures
    c.coordinate_at-2.ensures c.coordinate_at-3.ensures
