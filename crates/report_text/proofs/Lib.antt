mod BlockImages
