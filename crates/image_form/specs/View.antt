-- What the contracts see of the parts of an image.
use Rattle.image_form.specs.declared.parts.Parts.{Parts}
use Rattle.image_form.specs.Image.{Image}

-- the image that the parts are
abbrev pub view : Parts → Image
view parts = record {
  prefix = parts.prefix;
  seg_size = parts.seg_size;
  stack_size = parts.stack_size;
  entries = parts.entries.items;
  code = parts.code.now;
  public = parts.public.now;
  private = parts.private.now;
}
