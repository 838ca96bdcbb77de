-- `points::put_record` meets its contract: a word and three coordinates. Assumes nothing.
use Rattle.image_blocks.proofs.LaidLaws.{record_laid}
use Rattle.image_points.proofs.points.put_record.Goals as goal

pub returns : goal.returns
returns c =
    record_laid _ _ _ _ _ _ _ _ c.put_word.ensures c.put_coordinate.ensures
    c.put_coordinate-2.ensures c.put_coordinate-3.ensures
