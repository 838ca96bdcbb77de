-- `blocks::put_header` meets its contract: seven words. Assumes nothing.
use Rattle.image_blocks.proofs.LaidLaws.{header_laid}
use Rattle.image_blocks.proofs.blocks.put_header.Goals as goal

pub returns : goal.returns
returns c =
    header_laid _ _ _ _ _ _ _ _ _ _ _ _ _ _ _ _ _ _ c.total_bytes.ensures c.flag_offset.ensures
    c.vertex_offset.ensures c.put_word.ensures c.put_word-2.ensures
    c.put_word-3.ensures c.put_word-4.ensures
    c.put_word-5.ensures c.put_word-6.ensures c.put_word-7.ensures
